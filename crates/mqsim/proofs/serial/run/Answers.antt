use Rattle.std.proofs.Common.{rules}
use Rattle.mqsim.proofs.RunLemmas.{no_memory, ran_serial}
use Rattle.mqsim.proofs.serial.run.Goals as goal

pub returns-in-Ok : goal.returns-in-Ok
returns-in-Ok g c = record { ran = search (rules, ran_serial) }

pub returns-in-Err : goal.returns-in-Err
returns-in-Err g c = record { ran = search (rules, no_memory) }
