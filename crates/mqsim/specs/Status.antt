-- The exit statuses.
use Rattle.std.specs.Prelude.{ℕ, Result, Ok, Err}
use Rattle.mq_cli.specs.declared.fault.RunFault.{RunFault}
use Rattle.mq_cli.specs.declared.fault.RunFault.TheVariants.{Script, Size, Read, Write, Memory, Thread}

-- the status of a fault; a mistake in the command line has 2
abbrev pub status : RunFault → ℕ
status (Script line cause) = 1
status Size = 1
status Read = 3
status Write = 4
status Memory = 5
status Thread = 6

-- the status of a run: 0 where it had no fault
abbrev pub run_status : Result (Unit {0}) RunFault → ℕ
run_status (Ok _) = 0
run_status (Err fault) = status fault
