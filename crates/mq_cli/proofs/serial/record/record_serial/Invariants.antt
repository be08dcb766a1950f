use Rattle.mq_cli.proofs.serial.record.record_serial.Given as goal

abbrev pub ghosts-record_script : goal.ghosts-record_script
ghosts-record_script g a = record { name = a.ledger.name; parts = a.ledger.parts }
