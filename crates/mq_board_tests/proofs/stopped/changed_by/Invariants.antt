use Rattle.mq_board_tests.proofs.stopped.changed_by.Given as goal

-- the board that was just opened
abbrev pub ghosts-changed_beside : goal.ghosts-changed_beside
ghosts-changed_beside g a = record {
  board = λ _. a.opened.history.seen.book;
  roll = λ _. a.opened.roll.seen.book;
}
