use Rattle.mq_table.proofs.SlotFields.{got_slot}
use Rattle.mq_table.proofs.slot.Slot.receive.Goals as goal

pub invariant_of-self-2 : goal.invariant_of-self-2
invariant_of-self-2 g c =
    got_slot _ _ _ _ _ _ _ _ _ (rw c.in-Some.is at c.self.invariant) c.receive.new.self
    c.holds.ensures.waits _ _ _ _ _ _ c.in_ok-received.ensures.answer
