use Rattle.std.proofs.Common.{refl}
use Rattle.std.specs.Fmt.{digits}
use Rattle.mq_trace.specs.Ipcs.{limit_lines}
use Rattle.mq_trace.proofs.worked.limits_of_16_slots.Goals as goal

pub returns : goal.returns
unfolding digits limit_lines
returns c = refl
