use Rattle.std.proofs.Common.{length}
use Rattle.mq.proofs.system_program.+leave_all.Given as goal

-- the callers that are left
abbrev pub decreases-leave_all : goal.decreases-leave_all
decreases-leave_all g l = length l.callers.now.items
