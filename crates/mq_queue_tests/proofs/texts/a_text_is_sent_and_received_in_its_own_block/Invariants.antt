use Rattle.mq_queue_tests.proofs.texts.a_text_is_sent_and_received_in_its_own_block.Given as goal

-- the ledger that the test opens
abbrev pub ghosts-sent_on : goal.ghosts-sent_on
ghosts-sent_on g a = record { name = a.ledger.name; parts = a.ledger.parts }
