use Rattle.std.proofs.Common.{◌≡◌, length}
use Rattle.mq_system.specs.Outcome.{IsLook}
use Rattle.mq_system.proofs.ReportLemmas.{AreRows}
use Rattle.mq_system.proofs.seat.Seat.report.Given as goal

-- the rows so far
abbrev pub invariant-loop-number : goal.invariant-loop-number
invariant-loop-number g l =
    (length l.rows ≡ length l.fn.rows) × IsLook l.fn.self l.self
    × AreRows l.self.fronts l.rows l.number
