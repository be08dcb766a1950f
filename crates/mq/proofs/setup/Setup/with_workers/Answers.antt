use Rattle.mq_system.proofs.NameLemmas.{names_are}
use Rattle.mq.proofs.setup.Setup.with_workers.Goals as goal

pub run_workers-requires-clause-names : goal.run_workers-requires-clause-names
run_workers-requires-clause-names g c lifetimes outlive =
    names_are c.in-Ok.blanks (record c.args.self.config { seats = c.if-is_empty.seats }) c.in-Ok.ensures.entries c.in-Ok.ensures.boards
