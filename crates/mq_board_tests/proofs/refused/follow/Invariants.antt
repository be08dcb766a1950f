use Rattle.mq_board_tests.specs.Shown.{IsShown}
use Rattle.mq_board_tests.proofs.refused.follow.Given as goal

-- all that was done is published
abbrev pub invariant-loop-place : goal.invariant-loop-place
invariant-loop-place g l = IsShown l.queue.base l.queue.tail l.writer
