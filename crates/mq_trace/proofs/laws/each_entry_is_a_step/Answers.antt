use Rattle.std.proofs.Common.{◌++◌}
use Rattle.mq_trace.specs.Steps.{first_point}
use Rattle.mq_trace.proofs.Events.{events_kept}
use Rattle.mq_trace.proofs.laws.each_entry_is_a_step.Goals as goal

pub returns : goal.returns
returns c slot = events_kept (first_point slot) (slot.past.now ++ slot.last.now)
