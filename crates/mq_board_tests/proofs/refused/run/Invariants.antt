use Rattle.mq_board_tests.proofs.refused.run.Given as goal

-- the board that was just opened
abbrev pub ghosts-listed : goal.ghosts-listed
ghosts-listed g a = record {
  board = λ _. a.opened.history.seen.book;
  roll = λ _. a.opened.roll.seen.book;
}
