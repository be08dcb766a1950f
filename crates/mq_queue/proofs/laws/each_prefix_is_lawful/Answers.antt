use Rattle.std.proofs.Common.{[]}
use Rattle.mq_queue.proofs.Logs.{front_follows}
use Rattle.mq_queue.proofs.laws.each_prefix_is_lawful.Goals as goal

pub returns : goal.returns
returns c = λ log rest begun lawful. record { begun = begun; each = front_follows [] log rest lawful.each }
