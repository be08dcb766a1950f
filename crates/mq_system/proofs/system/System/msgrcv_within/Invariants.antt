use Rattle.mq_system.specs.Outcome.{IsLook}
use Rattle.mq_system.proofs.system.System.msgrcv_within.Given as goal

-- the seat has learned at most
abbrev pub invariant-loop : goal.invariant-loop
invariant-loop g l = IsLook l.fn.seat l.seat
