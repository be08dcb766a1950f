use Rattle.std.proofs.Common.{rules}
use Rattle.mq_table.proofs.SlotFields.{refused_send, sent_slot}
use Rattle.mq_table.proofs.slot.Slot.send.Goals as goal

pub returns-in_err-send-clause-answer : goal.returns-in_err-send-clause-answer
returns-in_err-send-clause-answer g c =
    let told = refused_send _ _ _ _ _ _ _ _ _ (rw c.in-Some.is at c.self.invariant)
    c.args.message c.args.moment in
    rw (← c.self.view_is, c.in-Some.is, told) (search rules)

pub invariant_of-self-2 : goal.invariant_of-self-2
invariant_of-self-2 g c =
    sent_slot _ _ _ _ _ _ _ _ _ (rw c.in-Some.is at c.self.invariant) c.send.new.self
    c.holds.ensures.waits _ _ _ c.in_ok-send.ensures.answer
