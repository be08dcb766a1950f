use Rattle.mq_text_tests.proofs.magazines.blocks_move_to_another_magazine_as_long_as_they_fit.Given as goal

-- the ledger that the test opens
abbrev pub ghosts-moved-L-Ledger : goal.ghosts-moved-L-Ledger
ghosts-moved-L-Ledger g a = record { name = a.ledger.name; parts = a.ledger.parts }

-- and the height of its arena
abbrev pub ghosts-moved-L-OfHeight : goal.ghosts-moved-L-OfHeight
ghosts-moved-L-OfHeight g a = record { height = a.unopened }
