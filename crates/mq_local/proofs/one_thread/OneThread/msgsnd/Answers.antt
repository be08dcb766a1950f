use Rattle.std.proofs.Common.{refl, rules}
use mir.Val.{SFits}
use mir.Syntax.{w64}
use Rattle.std.proofs.lemmas.Int.{to_z-of_z}
use Rattle.mq_calls.specs.Texts.{bytes_of}
use Rattle.mq_table.proofs.OneMore.{sent_more}
use Rattle.mq_local.proofs.KeptLemmas.{kept_on, kept_same}
use Rattle.mq_local.proofs.one_thread.OneThread.msgsnd.Goals as goal

pub invariant_of-self : goal.invariant_of-self
invariant_of-self g c =
    let within = rw (← c.self.view_is) at c.in-Ok.ensures.within in
    let live = rw (← c.self.view_is) at c.in-Ok.ensures.live in
    let fits : SFits w64 c.args.mtype = search rules in
    let told = simp to_z-of_z at c.in-Ok-send.ensures.answer in
    kept_on _ _ _ _ _ c.self.invariant _ within _ c.send.new.self _ c.index_mut.ensures.value live _
    (sent_more bytes_of _ _
    (record { mtype = c.args.mtype; sender = c.args.seat; tag = c.args.tag; body = c.args.text })
    c.args.moment _ told)

pub invariant_of-self-in-Err-send : goal.invariant_of-self-in-Err-send
invariant_of-self-in-Err-send g c =
    let within = rw (← c.self.view_is) at c.in-Ok.ensures.within in
    kept_same _ _ _ _ _ c.self.invariant _ within _ c.send.new.self _ c.index_mut.ensures.value
    _ refl c.in-Err-send.ensures.answer.unchanged
