use Rattle.std.proofs.Common.{◌≡◌, ◌≤◌, vec_capacity}
use Rattle.mq_calls.specs.Limits.{empty_slots}
use Rattle.mq_local.proofs.one_thread.fill.Given as goal

-- the slots so far, and the room for the others
abbrev pub invariant-loop-number : goal.invariant-loop-number
invariant-loop-number g l =
    (l.slots.items ≡ empty_slots l.number)
    × (l.initial.count ≤ vec_capacity l.slots)
