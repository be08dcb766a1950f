use Rattle.std.proofs.Common.{◌≡◌, ◌+◌, ◌*◌}
use Rattle.mq_system.specs.declared.seat.TheConstants.{MAX_COUNT}
use Rattle.mq_system.proofs.tally.Tally.seat_part.Given as goal

-- the part has the greatest count for each slot so far
abbrev pub invariant-loop-slot : goal.invariant-loop-slot
invariant-loop-slot g l =
    (l.part.parts ≡ 1) × (l.part.amount ≡ l._slot * MAX_COUNT)
    × (l.self.unused.parts + 1 ≡ l.fn.self.unused.parts)
    × (l.self.book.total ≡ l.fn.self.book.total + l._slot * MAX_COUNT)
