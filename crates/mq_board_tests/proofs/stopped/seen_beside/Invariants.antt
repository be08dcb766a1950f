use Rattle.std.proofs.Common.{vec_len}
use Rattle.mq_board_tests.proofs.stopped.seen_beside.Given as goal

abbrev pub decreases-loop-stopped : goal.decreases-loop-stopped
decreases-loop-stopped g l = vec_len l.inside
