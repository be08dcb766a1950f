use Rattle.std.proofs.Common.{◌≡◌, ◌+◌, ◌≤◌, length, vec_capacity}
use Rattle.mq_system.specs.Seat.{counted_by}
use Rattle.mq_system.specs.Sizes.{all_changes}
use Rattle.mq_system.proofs.HomeLemmas.{AreApart}
use Rattle.mq_system.proofs.close.gather.Given as goal

abbrev pub decreases-loop-seat : goal.decreases-loop-seat
decreases-loop-seat g l = length l.seats.items

-- what is gathered and what is left are all parts, and with what was counted all that can be
abbrev pub invariant-loop-seat : goal.invariant-loop-seat
invariant-loop-seat g l =
    let slots = g.N.Names.slots in
    (l.parts.parts + length l.seats.items ≡ l.fn.parts.parts + length l.fn.seats.items)
    × (l.parts.amount + counted_by l.fn.seats.items + all_changes slots (length l.seats.items)
    ≡ l.fn.parts.amount + counted_by l.seats.items
    + all_changes slots (length l.fn.seats.items))
    × AreApart slots l.fn.seats.items l.seats.items l.fronts.items
    × (length l.fronts.items + length l.seats.items ≡ length l.fn.seats.items)
    × (length l.fn.seats.items ≤ vec_capacity l.fronts)
