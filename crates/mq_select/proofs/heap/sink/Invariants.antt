use Rattle.std.proofs.Common.{◌≡◌, ℤ, ◌≤◌, ◌-◌}
use Rattle.std.specs.Ordering.{int_eq}
use Rattle.indexmap.specs.IndexMap.{get, index_map_len, spare}
use Rattle.mq_select.specs.Heap.{IsHeapDownTo}
use Rattle.mq_select.proofs.heap.sink.Given as goal

abbrev pub invariant-loop-below : goal.invariant-loop-below
invariant-loop-below l = record {
  heap : IsHeapDownTo l.at l.heap.entries;
  same : (t : ℤ) → get int_eq l.heap t ≡ get int_eq l.initial.heap t;
  room : spare l.initial.heap ≤ spare l.heap;
}

abbrev pub decreases-loop-below : goal.decreases-loop-below
decreases-loop-below l = index_map_len l.heap - l.at
