use Rattle.std.proofs.Common.{◌∷◌, [], map, sym, ◌∙◌}
use Rattle.mq_trace.specs.Records.{refusal_record, refused_process}
use Rattle.mq_trace.proofs.Lists.{some_refusals}
use Rattle.mq_trace.proofs.Sheets.{both_written, wrote_added}
use Rattle.mq_trace.proofs.trace.write_refusals.Goals as goal

pub returns : goal.returns
returns g c =
    let some = some_refusals c.args.refusals.now (sym c.is_empty.ensures ∙ c.if-is_empty.false) in
    rw some
    (both_written _ _ _ c.args.sheet.now c.add_refused_process.new.self c.write_each.new.sheet (refused_process ∷ [])
    (map refusal_record c.args.refusals.now) c.write_each.result (wrote_added _ _ _ _ c.in_default.ensures) c.write_each.ensures)
