use Rattle.mq_queue.proofs.Replayed.{replay_is}
use Rattle.mq_queue.proofs.laws.a_log_is_replayed.Goals as goal

pub returns : goal.returns
returns c = λ log lawful. replay_is log lawful.each
