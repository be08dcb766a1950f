use Rattle.std.proofs.Common.{◌≡◌, ℤ, ◌≤◌}
use Rattle.std.specs.Ordering.{int_eq}
use Rattle.indexmap.specs.IndexMap.{get, spare}
use Rattle.mq_select.specs.Heap.{IsHeapUpTo}
use Rattle.mq_select.proofs.heap.rise.Given as goal

abbrev pub invariant-loop-above : goal.invariant-loop-above
invariant-loop-above l = record {
  heap : IsHeapUpTo l.at l.heap.entries;
  same : (t : ℤ) → get int_eq l.heap t ≡ get int_eq l.initial.heap t;
  room : spare l.initial.heap ≤ spare l.heap;
}

abbrev pub decreases-loop-above : goal.decreases-loop-above
decreases-loop-above l = l.at
