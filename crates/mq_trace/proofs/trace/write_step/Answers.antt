use Rattle.mq_trace.proofs.Bytes.{nothing_yet}
use Rattle.mq_trace.proofs.Sheets.{added_written}
use Rattle.mq_trace.proofs.trace.write_step.Goals as goal

pub returns-in-Err : goal.returns-in-Err
returns-in-Err g c = nothing_yet _ _

pub returns : goal.returns
returns g c = added_written _ _ _ _ _ _ _ c.in_default.ensures c.write_if_long.ensures
