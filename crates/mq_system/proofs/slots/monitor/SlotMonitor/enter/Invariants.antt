use Rattle.mq_system.specs.Outcome.{IsLook}
use Rattle.mq_system.proofs.slots.monitor.SlotMonitor.enter.Given as goal

-- the seat has learned at most
abbrev pub invariant-loop-try : goal.invariant-loop-try
invariant-loop-try g l = IsLook l.fn.seat l.seat

abbrev pub invariant-loop : goal.invariant-loop
invariant-loop g l = IsLook l.fn.seat l.seat
