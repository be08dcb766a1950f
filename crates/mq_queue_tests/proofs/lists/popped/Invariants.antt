use Rattle.std.proofs.Common.{length}
use Rattle.mq_queue_tests.proofs.lists.popped.Given as goal

abbrev pub decreases-loop-message : goal.decreases-loop-message
decreases-loop-message g l = length (g.W.Waiting.messages l.list)
