use Rattle.std.proofs.Common.{length}
use Rattle.mq_system.proofs.system.System.take_home.Given as goal

abbrev pub decreases-loop-message : goal.decreases-loop-message
decreases-loop-message g l = length l.waiting.messages
