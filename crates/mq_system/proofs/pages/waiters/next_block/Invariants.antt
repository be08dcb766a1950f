use Rattle.std.proofs.Common.{◌≤◌}
use Rattle.std.specs.VecDeque.{deque_len}
use Rattle.mq_system.proofs.pages.waiters.next_block.Given as goal

-- no text is added, and each iteration removes one
abbrev pub invariant-loop-delivered : goal.invariant-loop-delivered
invariant-loop-delivered g l = deque_len l.texts ≤ deque_len l.fn.texts

abbrev pub decreases-loop-delivered : goal.decreases-loop-delivered
decreases-loop-delivered g l = deque_len l.texts
