use Rattle.std.proofs.Common.{◌≡◌}
use Rattle.mq_system.specs.Outcome.{IsLook}
use Rattle.mq_system.specs.Shown.{known_usage}
use Rattle.mq_system.proofs.seat.Seat.info.Given as goal

-- the slots so far
abbrev pub invariant-loop-number : goal.invariant-loop-number
invariant-loop-number g l =
    IsLook l.fn.self l.self
    × (l.usage ≡ known_usage g.N.Names.slots g.N.Names.height l.self l.number)
