use Rattle.mq_system.proofs.NameLemmas.{books_of, names_of}
use Rattle.mq.proofs.setup.Setup.with_workers.Given as goal

-- the ledgers and boards that were just opened, and this size
abbrev pub ghosts-run_workers-N-Names : goal.ghosts-run_workers-N-Names
ghosts-run_workers-N-Names g a = names_of a.blanks a.config

abbrev pub ghosts-run_workers-N-Naming : goal.ghosts-run_workers-N-Naming
ghosts-run_workers-N-Naming g a = books_of a.blanks

-- these workers
abbrev pub ghosts-run_workers-C-Crew : goal.ghosts-run_workers-C-Crew
ghosts-run_workers-C-Crew g a = record { workers = a.workers.items }
