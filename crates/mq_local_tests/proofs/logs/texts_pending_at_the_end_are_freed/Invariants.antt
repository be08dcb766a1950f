use Rattle.mq_local_tests.proofs.logs.texts_pending_at_the_end_are_freed.Given as goal

-- the ledger that the test opens
abbrev pub ghosts-closed : goal.ghosts-closed
ghosts-closed g a = record { name = a.ledger.name; parts = a.ledger.parts }
