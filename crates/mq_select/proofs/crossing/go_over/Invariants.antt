use Rattle.std.proofs.Common.{◌≡◌, ◌++◌, length}
use Rattle.std.specs.VecDeque.{deque_capacity}
use Rattle.mq_select.proofs.crossing.go_over.Given as goal

abbrev pub invariant-loop-next : goal.invariant-loop-next
invariant-loop-next g l = record {
  whole : l.index.messages ++ l.messages.items ≡ l.initial.index.messages ++ l.initial.messages.items;
  capacity : deque_capacity l.messages ≡ deque_capacity l.initial.messages;
}

abbrev pub decreases-loop-next : goal.decreases-loop-next
decreases-loop-next g l = length l.messages.items
