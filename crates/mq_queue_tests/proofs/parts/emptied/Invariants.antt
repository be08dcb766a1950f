use Rattle.std.proofs.Common.{length}
use Rattle.mq_queue_tests.proofs.parts.emptied.Given as goal

abbrev pub decreases-loop-tag : goal.decreases-loop-tag
decreases-loop-tag l = length l.queue
