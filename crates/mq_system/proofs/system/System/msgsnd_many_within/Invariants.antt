use Rattle.std.proofs.Common.{◌≡◌}
use Rattle.mq_system.specs.Outcome.{IsLook}
use Rattle.mq_system.proofs.system.System.msgsnd_many_within.Given as goal

-- the seat has learned at most, and nothing was sent yet
abbrev pub invariant-loop : goal.invariant-loop
invariant-loop g l = IsLook l.fn.seat l.seat × (l.letters.items ≡ l.fn.letters.items)
