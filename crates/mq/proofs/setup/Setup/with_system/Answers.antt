use Rattle.mq_system.proofs.NameLemmas.{names_are}
use Rattle.mq.proofs.setup.Setup.with_system.Goals as goal

pub run_system-requires-clause-names : goal.run_system-requires-clause-names
run_system-requires-clause-names g c =
    names_are c.in-Ok.blanks c.args.self.config c.in-Ok.ensures.entries c.in-Ok.ensures.boards
