use Rattle.std.proofs.Common.{◌≡◌, ◌+◌, ◌<◌, ◌≤◌, length, vec_capacity}
use Rattle.mq_system.specs.Closed.{AreDistinct, entries_in}
use Rattle.mq_system.proofs.ClosedLemmas.{AreEnded}
use Rattle.mq_system.proofs.HomeLemmas.{AreLeft}
use Rattle.mq_system.proofs.system.System.close.Given as goal

abbrev pub decreases-loop-monitor : goal.decreases-loop-monitor
decreases-loop-monitor g l = length l.monitors.items

-- what is left to end and what has ended are all slots, for which there is room, and the parts that
-- are gathered are those of what has ended; of the fronts those of the other slots are left, and
-- once a slot has ended no two seats have the same number
abbrev pub invariant-loop-monitor : goal.invariant-loop-monitor
invariant-loop-monitor g l =
    let slots = g.N.Names.slots in
    let seats = l.fn.seats.items in
    (length l.monitors.items + length l.closed.items ≡ slots)
    × (slots ≤ vec_capacity l.closed)
    × AreEnded slots g.N.Names.last_seq seats l.closed.items
    × (l.arena.height ≡ g.N.Names.height)
    × (l.parts.parts ≡ l.initial.parts.parts + length l.closed.items)
    × (l.parts.amount ≡ l.initial.parts.amount + entries_in l.closed.items)
    × AreLeft (length l.monitors.items) seats l.fronts.items
    × (length l.monitors.items < slots → AreDistinct seats)
