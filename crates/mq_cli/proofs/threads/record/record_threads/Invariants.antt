use Rattle.mq_system.proofs.NameLemmas.{books_of, names_of}
use Rattle.mq_cli.proofs.threads.record.record_threads.Given as goal

-- the ledgers and boards that were just opened, and this size with so many seats
abbrev pub ghosts-record_wanted-N-Names : goal.ghosts-record_wanted-N-Names
ghosts-record_wanted-N-Names g a = names_of a.blanks (record a.config { seats = a.seats })

abbrev pub ghosts-record_wanted-N-Naming : goal.ghosts-record_wanted-N-Naming
ghosts-record_wanted-N-Naming g a = books_of a.blanks
