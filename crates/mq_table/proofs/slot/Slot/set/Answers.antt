use Rattle.mq_table.proofs.SlotFields.{changed_slot}
use Rattle.mq_table.proofs.slot.Slot.set.Goals as goal

pub invariant_of-self-2 : goal.invariant_of-self-2
invariant_of-self-2 g c =
    changed_slot _ _ _ _ _ _ _ _ _ (rw c.in-Some.is at c.self.invariant) c.set.new.self
    c.holds.ensures.waits _ _ _ _ c.in_ok-set.ensures.answer
