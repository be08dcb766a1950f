use Rattle.mq_queue.proofs.Order.{in_order}
use Rattle.mq_queue.proofs.laws.messages_of_one_type_come_in_order.Goals as goal

pub returns : goal.returns
returns c = in_order
