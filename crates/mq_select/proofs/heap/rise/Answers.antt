use Rattle.std.proofs.Common.{◌∙◌, arith}
use Rattle.mq_select.proofs.Heaps.{rises}
use Rattle.mq_select.proofs.heap.rise.Goals as goal

pub loop-above-preserved : goal.loop-above-preserved
loop-above-preserved c =
    let found = c.in-Some.ensures in
    let moved = c.swap_indices.ensures in
    record {
      heap = rises c.loop-above.heap.entries c.swap_indices.new.self.entries c.loop-above.at c.in-Some.above c.loop-above.invariant.heap found.0 found.1 moved.entries moved.reordered.1;
      same = λ t. moved.reordered.2 t ∙ c.loop-above.invariant.same t;
      room = omega (arith, moved.room.0);
    }
