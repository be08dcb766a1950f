use Rattle.std.proofs.Common.{rules, append_assoc}
use Rattle.mq_trace.specs.Ipcs.{queue_row}
use Rattle.mq_cli.proofs.ReportLemmas.{rows_more}
use Rattle.mq_cli.proofs.serial.report.write_queue_rows.Goals as goal

pub loop-slot-preserved : goal.loop-slot-preserved
loop-slot-preserved g c =
    rw (rows_more (queue_row c.args.keys) c.args.queues.now c.loop-slot.slot) (search (rules, append_assoc))
