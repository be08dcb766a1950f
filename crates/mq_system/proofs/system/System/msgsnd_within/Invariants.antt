use Rattle.std.proofs.Common.{◌≡◌}
use Rattle.mq_system.specs.Outcome.{IsLook}
use Rattle.mq_system.proofs.system.System.msgsnd_within.Given as goal

-- the text that is not sent yet is the sender's, and the seat has learned at most
abbrev pub invariant-loop : goal.invariant-loop
invariant-loop g l = (l.text ≡ l.fn.text) × IsLook l.fn.seat l.seat
