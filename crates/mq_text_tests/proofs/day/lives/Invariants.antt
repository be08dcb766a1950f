use Rattle.mq_text_tests.proofs.day.lives.Given as goal

-- the ledger that is opened
abbrev pub ghosts-opened : goal.ghosts-opened
ghosts-opened g a = record { name = a.ledger.name; parts = a.ledger.parts }
