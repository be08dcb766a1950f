use Rattle.mq.proofs.program.with_queues.Given as goal

-- the ledger that was just opened
abbrev pub ghosts-run_program : goal.ghosts-run_program
ghosts-run_program g a = record { name = a.ledger.name; parts = a.ledger.parts }
