use Rattle.std.proofs.Common.{refl}
use Rattle.std.specs.Fmt.{digits}
use Rattle.mq_trace.specs.Ipcs.{eight_digits, queue_access, queue_filled, queue_named}
use Rattle.mq_trace.proofs.worked.lines_of_queues.Goals as goal

pub returns : goal.returns
unfolding digits eight_digits queue_access queue_filled queue_named
returns c = record { decimal = refl; hexadecimal = refl; removed = refl }
