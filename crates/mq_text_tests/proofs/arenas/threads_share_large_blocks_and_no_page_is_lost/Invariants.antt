use Rattle.mq_text_tests.proofs.arenas.threads_share_large_blocks_and_no_page_is_lost.Given as goal

-- the ledger that the test opens
abbrev pub ghosts-shared-L-Ledger : goal.ghosts-shared-L-Ledger
ghosts-shared-L-Ledger g a = record { name = a.ledger.name; parts = a.ledger.parts }

-- and the height of its arena
abbrev pub ghosts-shared-L-OfHeight : goal.ghosts-shared-L-OfHeight
ghosts-shared-L-OfHeight g a = record { height = a.unopened }
