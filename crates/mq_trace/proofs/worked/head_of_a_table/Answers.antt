use Rattle.std.proofs.Common.{refl}
use Rattle.mq_trace.specs.Ipcs.{queues_head}
use Rattle.mq_trace.proofs.worked.head_of_a_table.Goals as goal

pub returns : goal.returns
unfolding queues_head
returns c = refl
