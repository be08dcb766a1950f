use Rattle.std.proofs.Common.{◌≡◌}
use Rattle.mq_board.proofs.reader.BoardReader.refresh.Given as goal

-- nothing was learned yet
abbrev pub invariant-loop-attempt : goal.invariant-loop-attempt
invariant-loop-attempt g l = l.self ≡ l.initial.self
