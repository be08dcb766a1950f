use Rattle.std.proofs.Common.{◌≡◌, length}
use Rattle.mq.proofs.LocalLemmas.{AreRowsOf}
use Rattle.mq.proofs.local_caller.LocalCaller.report.Given as goal

-- the rows so far
abbrev pub invariant-loop-slot : goal.invariant-loop-slot
invariant-loop-slot g l =
    (length l.rows ≡ length l.fn.rows) × AreRowsOf l.self.of.now.queues.slots l.rows l.slot
