use Rattle.std.proofs.Common.{◌≡◌, ◌*◌, [], length}
use Rattle.bench.proofs.board.publish_all.Given as goal

-- two events a pair, and none is pending
abbrev pub invariant-loop-pair : goal.invariant-loop-pair
invariant-loop-pair g l = record {
  long : length l.writer.events ≡ 2 * l._pair;
  idle : l.writer.pending ≡ [];
}
