use Rattle.std.proofs.Common.{◌≡◌, ◌++◌, replicate}
use Rattle.mq_cli.proofs.serial.report.write_spaces.Given as goal

-- the spaces so far
abbrev pub invariant-loop : goal.invariant-loop
invariant-loop l = l.out.items ≡ l.initial.out.items ++ replicate l.counter 32
