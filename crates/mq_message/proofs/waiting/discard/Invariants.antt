use Rattle.std.proofs.Common.{length}
use Rattle.mq_message.proofs.waiting.discard.Given as goal

abbrev pub decreases-loop-message : goal.decreases-loop-message
decreases-loop-message g l = length (g.W.Waiting.messages l.waiting)
