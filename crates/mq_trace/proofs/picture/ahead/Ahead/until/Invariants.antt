use Rattle.std.proofs.Common.{◌≡◌, length}
use Rattle.mq_trace.proofs.picture.ahead.Ahead.until.Given as goal
use Rattle.mq_trace.specs.Bars.{to_come, until_of}

abbrev pub invariant-loop-event : goal.invariant-loop-event
invariant-loop-event l = until_of l.place l.entry (to_come l.fn.self) ≡ until_of l.place l.at (to_come l.ahead)

abbrev pub decreases-loop-event : goal.decreases-loop-event
decreases-loop-event l = length (to_come l.ahead)
