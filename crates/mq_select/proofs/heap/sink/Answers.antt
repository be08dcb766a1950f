use Rattle.std.proofs.Common.{◌∙◌, arith}
use Rattle.mq_select.proofs.Heaps.{sinks}
use Rattle.mq_select.proofs.heap.sink.Goals as goal

pub loop-below-preserved : goal.loop-below-preserved
loop-below-preserved c =
    let found = c.in-Some.ensures in
    let moved = c.swap_indices.ensures in
    record {
      heap = sinks c.loop-below.heap.entries c.swap_indices.new.self.entries c.loop-below.at c.in-Some.below c.loop-below.invariant.heap found.0 found.1 found.2 found.3 moved.entries moved.reordered.1;
      same = λ t. moved.reordered.2 t ∙ c.loop-below.invariant.same t;
      room = omega (arith, moved.room.0);
    }
