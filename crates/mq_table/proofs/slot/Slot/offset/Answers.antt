use Rattle.std.proofs.Common.{arith}
use Rattle.mq_table.proofs.Slots.{within}
use Rattle.mq_table.proofs.slot.Slot.offset.Goals as goal

pub overflow_sub-result : goal.overflow_sub-result
overflow_sub-result g c =
    let low = within _ _ _ _ _ (rw c.in-Some.is at c.self.invariant) in
    let entries = rw (← c.self.view_is, c.in-Some.is) at c.events-entries.ensures.value in
    omega (arith, low, entries, c.log_len.ensures.value)
