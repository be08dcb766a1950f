use Rattle.mq_system.proofs.NameLemmas.{books_of, names_of}
use Rattle.mq.proofs.setup.Setup.with_system.Given as goal

-- the ledgers and boards that were just opened, and this size
abbrev pub ghosts-run_system-N-Names : goal.ghosts-run_system-N-Names
ghosts-run_system-N-Names g a = names_of a.blanks a.config

abbrev pub ghosts-run_system-N-Naming : goal.ghosts-run_system-N-Naming
ghosts-run_system-N-Naming g a = books_of a.blanks
