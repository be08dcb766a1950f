use Rattle.mq_queue_tests.proofs.texts.a_text_that_was_copied_on_its_way_is_found_out.Given as goal

-- the ledger that the test opens
abbrev pub ghosts-copied_on_its_way : goal.ghosts-copied_on_its_way
ghosts-copied_on_its_way g a = record { name = a.ledger.name; parts = a.ledger.parts }
