use Rattle.mq_system.proofs.NameLemmas.{books_of, names_of}
use Rattle.mq_system_tests.proofs.shared.apart_once.Given as goal

-- the ledgers and boards that are opened, and the size that is asked for
abbrev pub ghosts-apart-N-Names : goal.ghosts-apart-N-Names
ghosts-apart-N-Names g a = names_of a.blanks a.config

abbrev pub ghosts-apart-N-Naming : goal.ghosts-apart-N-Naming
ghosts-apart-N-Naming g a = books_of a.blanks
