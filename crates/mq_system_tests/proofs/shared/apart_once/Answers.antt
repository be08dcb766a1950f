use Rattle.mq_system.proofs.NameLemmas.{names_are}
use Rattle.mq_system_tests.proofs.shared.apart_once.Goals as goal

pub apart-requires-clause-names : goal.apart-requires-clause-names
apart-requires-clause-names g c =
    names_are c.in_ok-blanks.blanks c.args.config c.in_ok-blanks.ensures.entries c.in_ok-blanks.ensures.boards
