use Rattle.mq_local_tests.proofs.limits.size.Given as goal

-- the ledger that is opened
abbrev pub ghosts-sized : goal.ghosts-sized
ghosts-sized g a = record { name = a.ledger.name; parts = a.ledger.parts }
