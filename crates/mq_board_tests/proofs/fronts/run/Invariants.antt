use Rattle.mq_board_tests.proofs.fronts.run.Given as goal

-- the board that was just opened
abbrev pub ghosts-followed : goal.ghosts-followed
ghosts-followed g a = record {
  board = λ _. a.opened.history.seen.book;
  roll = λ _. a.opened.roll.seen.book;
}
