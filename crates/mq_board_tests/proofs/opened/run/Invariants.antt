use Rattle.mq_board.specs.Named.{board_of, roll_of}
use Rattle.mq_board_tests.proofs.opened.run.Given as goal

-- the boards that were just opened
abbrev pub ghosts-play : goal.ghosts-play
ghosts-play g a = record {
  board = board_of a.opened.items;
  roll = roll_of a.opened.items;
}
