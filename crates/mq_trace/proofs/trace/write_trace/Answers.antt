use Rattle.mq_trace.proofs.Sheets.{ended_after, failed_before}
use Rattle.mq_trace.proofs.trace.write_trace.Goals as goal

pub returns-in-Err : goal.returns-in-Err
returns-in-Err g c = failed_before _ _ c.in-Ok.sheet _ _ _ c.in-Ok.ensures.text c.in-Ok.ensures.begun c.in-Err.ensures

pub returns : goal.returns
returns g c = ended_after _ _ _ c.in-Ok.sheet _ _ _ _ _ c.in-Ok.ensures.text c.in-Ok.ensures.begun c.in_default-write_records.ensures c.write_end.ensures
