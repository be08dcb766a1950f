use Rattle.mq_board_tests.proofs.ends.ends.Given as goal

-- the board that was just opened
abbrev pub ghosts-ended : goal.ghosts-ended
ghosts-ended g a = record {
  board = λ _. a.opened.history.seen.book;
  roll = λ _. a.opened.roll.seen.book;
}
