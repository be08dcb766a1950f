use Rattle.std.proofs.Common.{◌≡◌, ◌++◌}
use Rattle.mq_trace.specs.Ipcs.{queue_row}
use Rattle.mq_cli.specs.Reports.{rows_to}
use Rattle.mq_cli.proofs.serial.report.write_queue_rows.Given as goal

-- the lines so far
abbrev pub invariant-loop-slot : goal.invariant-loop-slot
invariant-loop-slot g l = l.out.items ≡ l.initial.out.items ++ rows_to (queue_row l.keys) l.queues l.slot
