use Rattle.mq_cli.proofs.serial.prompt.run_prompt.Given as goal

abbrev pub ghosts-prompt : goal.ghosts-prompt
ghosts-prompt g a = record { name = a.ledger.name; parts = a.ledger.parts }
