use Rattle.mq_text_tests.proofs.threads.each_half_is_filled_by_a_thread_of_its_own.Given as goal

-- the ledger that the test opens
abbrev pub ghosts-opened : goal.ghosts-opened
ghosts-opened g a = record { name = a.ledger.name; parts = a.ledger.parts }
