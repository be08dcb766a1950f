use Rattle.std.proofs.Common.{refl}
use Rattle.mq_calls.specs.Texts.{bytes_of}
use Rattle.mq_table.proofs.OneMore.{set_more}
use Rattle.mq_local.proofs.KeptLemmas.{kept_on, kept_same}
use Rattle.mq_local.proofs.one_thread.OneThread.set.Goals as goal

pub invariant_of-self : goal.invariant_of-self
invariant_of-self g c =
    let within = rw (← c.self.view_is) at c.in_ok-k.ensures.within in
    let live = rw (← c.self.view_is) at c.in_ok-k.ensures.live in
    kept_on _ _ _ _ _ c.self.invariant _ within _ c.set.new.self _ c.index_mut.ensures.value live _
    (set_more bytes_of _ _ c.args.qbytes c.args.seat c.args.moment _ c.in-Ok.ensures.answer)

pub invariant_of-self-in-Err : goal.invariant_of-self-in-Err
invariant_of-self-in-Err g c =
    let within = rw (← c.self.view_is) at c.in_ok-k.ensures.within in
    kept_same _ _ _ _ _ c.self.invariant _ within _ c.set.new.self _ c.index_mut.ensures.value
    _ refl c.in-Err.ensures.answer.unchanged
