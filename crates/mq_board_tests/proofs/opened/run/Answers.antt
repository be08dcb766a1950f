use Rattle.mq_board.proofs.Names.{named}
use Rattle.mq_board_tests.proofs.opened.run.Goals as goal

pub play-requires-clause-named : goal.play-requires-clause-named
play-requires-clause-named g c = named c.in_ok-opened.opened.items
