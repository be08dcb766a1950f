use Rattle.mq_system.proofs.NameLemmas.{books_of, names_of}
use Rattle.mq_cli.proofs.threads.run_threads.Given as goal

-- the ledgers and boards that were just opened, and this size with so many seats
abbrev pub ghosts-run_wanted-N-Names : goal.ghosts-run_wanted-N-Names
ghosts-run_wanted-N-Names g a = names_of a.seating.blanks (record a.config { seats = a.seating.seats })

abbrev pub ghosts-run_wanted-N-Naming : goal.ghosts-run_wanted-N-Naming
ghosts-run_wanted-N-Naming g a = books_of a.seating.blanks
