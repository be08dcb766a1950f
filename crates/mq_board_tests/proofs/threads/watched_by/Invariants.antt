use Rattle.mq_board_tests.proofs.threads.watched_by.Given as goal

-- the board that was just opened
abbrev pub ghosts-watched : goal.ghosts-watched
ghosts-watched g a = record {
  board = λ _. a.opened.history.seen.book;
  roll = λ _. a.opened.roll.seen.book;
}
