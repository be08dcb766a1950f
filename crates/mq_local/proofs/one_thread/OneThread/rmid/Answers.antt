use Rattle.mq_local.proofs.KeptLemmas.{kept_removed, kept_same}
use Rattle.mq_local.proofs.one_thread.OneThread.rmid.Goals as goal

pub invariant_of-self : goal.invariant_of-self
invariant_of-self g c =
    let within = rw (← c.self.view_is) at c.in_ok-k.ensures.within in
    let live = rw (← c.self.view_is) at c.in_ok-k.ensures.live in
    let told = c.in-Ok.ensures.answer in
    kept_removed _ _ _ _ _ c.self.invariant _ within _ c.remove_under.new.slot _
    c.index_mut.ensures.value c.args.seat c.args.moment live told.taken.removed _ told.forgotten

pub invariant_of-self-in-Err : goal.invariant_of-self-in-Err
invariant_of-self-in-Err g c =
    let within = rw (← c.self.view_is) at c.in_ok-k.ensures.within in
    kept_same _ _ _ _ _ c.self.invariant _ within _ c.remove_under.new.slot _ c.index_mut.ensures.value
    _ c.in-Err.ensures.answer.1 c.in-Err.ensures.answer.0
