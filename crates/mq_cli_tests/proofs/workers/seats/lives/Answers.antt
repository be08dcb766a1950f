use Rattle.mq_system.proofs.NameLemmas.{names_are}
use Rattle.mq_cli_tests.proofs.workers.seats.lives.Goals as goal

pub lived-requires-clause-names : goal.lived-requires-clause-names
lived-requires-clause-names g c =
    names_are c.in_ok-blanks.blanks c.args.config c.in_ok-blanks.ensures.entries c.in_ok-blanks.ensures.boards
