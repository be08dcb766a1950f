use Rattle.mq_queue.proofs.Bases.{goes_on}
use Rattle.mq_queue.proofs.laws.a_drained_log_continues.Goals as goal

pub returns : goal.returns
returns c = goes_on
