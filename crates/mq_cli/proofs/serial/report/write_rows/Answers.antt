use Rattle.std.proofs.Common.{rules, append_assoc}
use Rattle.mq_cli.specs.Reports.{line_of_row}
use Rattle.mq_cli.proofs.ReportLemmas.{rows_more}
use Rattle.mq_cli.proofs.serial.report.write_rows.Goals as goal

pub loop-slot-preserved : goal.loop-slot-preserved
loop-slot-preserved g c =
    rw (rows_more line_of_row c.args.queues.now c.loop-slot.slot) (search (rules, append_assoc))
