use Rattle.mq_text_tests.proofs.magazines.a_magazine_caches_so_many_pages_and_frees_all.Given as goal

-- the ledger that the test opens
abbrev pub ghosts-kept-L-Ledger : goal.ghosts-kept-L-Ledger
ghosts-kept-L-Ledger g a = record { name = a.ledger.name; parts = a.ledger.parts }

-- and the height of its arena
abbrev pub ghosts-kept-L-OfHeight : goal.ghosts-kept-L-OfHeight
ghosts-kept-L-OfHeight g a = record { height = a.unopened }
