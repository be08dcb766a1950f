use Rattle.mq_system.proofs.NameLemmas.{books_of, names_of}
use Rattle.mq_cli_tests.proofs.workers.seats.lives.Given as goal

-- the ledgers and boards that are opened, and the size that is asked for
abbrev pub ghosts-lived-N-Names : goal.ghosts-lived-N-Names
ghosts-lived-N-Names g a = names_of a.blanks a.config

abbrev pub ghosts-lived-N-Naming : goal.ghosts-lived-N-Naming
ghosts-lived-N-Naming g a = books_of a.blanks
