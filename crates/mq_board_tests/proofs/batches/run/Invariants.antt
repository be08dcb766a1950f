use Rattle.mq_board_tests.proofs.batches.run.Given as goal

-- the board that was just opened
abbrev pub ghosts-shown_beside : goal.ghosts-shown_beside
ghosts-shown_beside g a = record {
  board = λ _. a.opened.history.seen.book;
  roll = λ _. a.opened.roll.seen.book;
}
