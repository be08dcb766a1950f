use Rattle.std.proofs.Common.{◌≡◌, ◌+◌, ◌≤◌, length, vec_capacity}
use Rattle.mq_system.proofs.parts.fill_monitors.Given as goal

abbrev pub decreases-loop-slot : goal.decreases-loop-slot
decreases-loop-slot g l = length l.slots.items

-- the slots that are left, the monitors so far, and the room for the others
abbrev pub invariant-loop-slot : goal.invariant-loop-slot
invariant-loop-slot g l =
    (length l.monitors.items + length l.slots.items ≡ g.N.Names.slots)
    × (g.N.Names.slots ≤ vec_capacity l.monitors)
