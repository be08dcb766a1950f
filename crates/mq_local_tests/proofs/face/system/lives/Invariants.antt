use Rattle.mq_local_tests.proofs.face.system.lives.Given as goal

-- the ledger that is opened
abbrev pub ghosts-lived : goal.ghosts-lived
ghosts-lived g a = record { name = a.ledger.name; parts = a.ledger.parts }
