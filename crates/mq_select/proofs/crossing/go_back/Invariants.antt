use Rattle.std.proofs.Common.{◌≡◌, ◌+◌, ◌≤◌, ◌++◌, length}
use Rattle.std.specs.VecDeque.{deque_len, deque_capacity}
use Rattle.mq_select.proofs.crossing.go_back.Given as goal

abbrev pub invariant-loop-first : goal.invariant-loop-first
invariant-loop-first g l = record {
  whole : l.messages.items ++ l.index.messages ≡ l.initial.messages.items ++ l.initial.index.messages;
  room : deque_len l.messages + length l.index.messages ≤ deque_capacity l.messages;
  capacity : deque_capacity l.messages ≡ deque_capacity l.initial.messages;
}

abbrev pub decreases-loop-first : goal.decreases-loop-first
decreases-loop-first g l = length l.index.messages
