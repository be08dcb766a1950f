use Rattle.std.proofs.Common.{length}
use Rattle.mq_system.proofs.pages.waiters.+take_emptied.Given as goal

-- the magazines that are left
abbrev pub decreases-take_emptied : goal.decreases-take_emptied
decreases-take_emptied g l = length l.magazines.now
