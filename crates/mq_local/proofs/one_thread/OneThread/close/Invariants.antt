use Rattle.std.proofs.Common.{◌≡◌, ◌≤◌, ◌+◌, ◌++◌, length, map, reverse, vec_capacity}
use Rattle.mq_calls.specs.Closed.{all_home, ending_of, ends}
use Rattle.mq_local.proofs.one_thread.OneThread.close.Given as goal

abbrev pub decreases-loop-slot : goal.decreases-loop-slot
decreases-loop-slot g l = length l.slots.items

-- what is left to end, and what has ended, are all; and there is room for it
abbrev pub invariant-loop-slot : goal.invariant-loop-slot
invariant-loop-slot g l =
    (map ends l.slots.items ++ reverse (map ending_of l.closed.items) ≡ map ends l.initial.slots.items)
    × (all_home l.slots.items l.arena ≡ all_home l.initial.slots.items l.initial.arena)
    × (length l.closed.items + length l.slots.items ≤ vec_capacity l.closed)
