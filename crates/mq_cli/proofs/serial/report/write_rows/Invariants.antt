use Rattle.std.proofs.Common.{◌≡◌, ◌++◌}
use Rattle.mq_cli.specs.Reports.{line_of_row, rows_to}
use Rattle.mq_cli.proofs.serial.report.write_rows.Given as goal

-- the lines so far
abbrev pub invariant-loop-slot : goal.invariant-loop-slot
invariant-loop-slot g l = l.out.items ≡ l.initial.out.items ++ rows_to line_of_row l.queues l.slot
