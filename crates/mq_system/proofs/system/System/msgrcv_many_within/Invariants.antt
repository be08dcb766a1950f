use Rattle.std.proofs.Common.{◌≡◌, [], vec_capacity}
use Rattle.mq_system.specs.Outcome.{IsLook}
use Rattle.mq_system.proofs.system.System.msgrcv_many_within.Given as goal

-- the seat has learned at most, nothing was received yet, and the room is the same
abbrev pub invariant-loop : goal.invariant-loop
invariant-loop g l =
    IsLook l.fn.seat l.seat × (l.out.items ≡ []) × (vec_capacity l.out ≡ vec_capacity l.fn.out)
