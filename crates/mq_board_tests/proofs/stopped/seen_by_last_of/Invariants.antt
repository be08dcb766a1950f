use Rattle.mq_board_tests.proofs.stopped.seen_by_last_of.Given as goal

-- the board that was just opened
abbrev pub ghosts-seen_beside : goal.ghosts-seen_beside
ghosts-seen_beside g a = record {
  board = λ _. a.opened.history.seen.book;
  roll = λ _. a.opened.roll.seen.book;
}
