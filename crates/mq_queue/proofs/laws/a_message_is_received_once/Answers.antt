use Rattle.mq_queue.proofs.Once.{once}
use Rattle.mq_queue.proofs.laws.a_message_is_received_once.Goals as goal

pub returns : goal.returns
returns c = λ log lawful place. once log lawful.each place
