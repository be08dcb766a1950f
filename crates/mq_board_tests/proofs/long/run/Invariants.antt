use Rattle.mq_board_tests.proofs.long.run.Given as goal

-- the board that was just opened
abbrev pub ghosts-ran : goal.ghosts-ran
ghosts-ran g a = record {
  board = λ _. a.opened.history.seen.book;
  roll = λ _. a.opened.roll.seen.book;
}
