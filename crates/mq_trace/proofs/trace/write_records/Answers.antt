use Rattle.mq_trace.specs.Trace.{refusal_records, slots_records}
use Rattle.mq_trace.proofs.Sheets.{both_written, prefix_longer}
use Rattle.mq_trace.proofs.trace.write_records.Goals as goal

pub returns-in-Err : goal.returns-in-Err
returns-in-Err g c = prefix_longer _ _ c.args.sheet.now (slots_records c.args.scale c.args.slots.now) (refusal_records c.args.refusals.now) c.in-Err.ensures

pub returns : goal.returns
returns g c = both_written _ _ _ _ _ _ _ _ _ c.in_default.ensures c.write_refusals.ensures
