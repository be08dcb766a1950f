use Rattle.std.proofs.Common.{refl}
use Rattle.mq_calls.specs.Texts.{bytes_of}
use Rattle.mq_table.proofs.OneMore.{received_more}
use Rattle.mq_local.proofs.KeptLemmas.{kept_on, kept_same}
use Rattle.mq_local.proofs.one_thread.OneThread.msgrcv.Goals as goal

pub invariant_of-self : goal.invariant_of-self
invariant_of-self g c =
    let within = rw (← c.self.view_is) at c.in_ok-k.ensures.within in
    let live = rw (← c.self.view_is) at c.in_ok-k.ensures.live in
    kept_on _ _ _ _ _ c.self.invariant _ within _ c.receive.new.self _ c.index_mut.ensures.value
    live _
    (received_more bytes_of _ _ c.args.size c.read-selection.result c.args.noerror
    c.args.seat c.args.moment _ c.in-Ok.ensures.answer.ok)

pub invariant_of-self-in-Err : goal.invariant_of-self-in-Err
invariant_of-self-in-Err g c =
    let within = rw (← c.self.view_is) at c.in_ok-k.ensures.within in
    kept_same _ _ _ _ _ c.self.invariant _ within _ c.receive.new.self _ c.index_mut.ensures.value
    _ refl c.in-Err.ensures.answer.unchanged
