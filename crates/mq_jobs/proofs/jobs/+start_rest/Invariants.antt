use Rattle.std.proofs.Common.{length}
use Rattle.mq_jobs.proofs.jobs.+start_rest.Given as goal

-- one job fewer is left
abbrev pub decreases-start_rest : goal.decreases-start_rest
decreases-start_rest g l = length l.jobs.items
