use Rattle.std.proofs.Common.{length}
use Rattle.mq_system.proofs.pages.magazines.Magazines.end.Given as goal

abbrev pub decreases-loop-own : goal.decreases-loop-own
decreases-loop-own g l = length l.each.items
