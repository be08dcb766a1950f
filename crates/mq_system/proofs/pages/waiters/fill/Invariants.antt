use Rattle.std.proofs.Common.{◌≤◌}
use Rattle.std.specs.VecDeque.{deque_len}
use Rattle.mq_system.proofs.pages.waiters.fill.Given as goal

-- no text is added, and each iteration removes one
abbrev pub invariant-loop-block : goal.invariant-loop-block
invariant-loop-block g l = deque_len l.texts ≤ deque_len l.fn.texts

abbrev pub decreases-loop-block : goal.decreases-loop-block
decreases-loop-block g l = deque_len l.texts
