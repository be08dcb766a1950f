use Rattle.std.proofs.Common.{◌≡◌, ◌*◌, [], length}
use Rattle.mq_board_tests.proofs.long.run_long.Given as goal

-- two events an iteration, and none is pending
abbrev pub invariant-loop-turn : goal.invariant-loop-turn
invariant-loop-turn g l = record {
  long : length l.writer.events ≡ 2 * l.turn;
  idle : l.writer.pending ≡ [];
}
