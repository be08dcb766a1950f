use Rattle.bench.proofs.board.seen_on.Given as goal

-- the board that was just opened
abbrev pub ghosts-measured : goal.ghosts-measured
ghosts-measured g a = record {
  board = λ _. a.opened.history.seen.book;
  roll = λ _. a.opened.roll.seen.book;
}
