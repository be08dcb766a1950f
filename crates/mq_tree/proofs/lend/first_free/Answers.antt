use Rattle.std.proofs.Common.{arith}
use Rattle.mq_tree.proofs.Lending.{both_in, to_left_half, to_right_half, found_run}
use Rattle.mq_tree.proofs.lend.first_free.Goals as goal
use Rattle.mq_tree.proofs.lend.first_free.Goals.{then-nodes-left, else-nodes-left}

pub bounds-nodes-left : goal.bounds-nodes-left
bounds-nodes-left c = omega (arith, both_in c.loop-at.invariant c.loop-at-test.true)

pub loop-at-preserved : goal.loop-at-preserved
loop-at-preserved c = elim c.if-nodes-left.branch [
  | then-nodes-left w ↦
      rw w.at-is (to_left_half c.loop-at.invariant c.loop-at-test.true (omega (arith, w.if-nodes-left.true, c.free_run-free.ensures)))
  | else-nodes-left w ↦
      rw w.at-is (to_right_half c.loop-at.invariant c.loop-at-test.true (omega (arith, w.if-nodes-left.false, c.free_run-free.ensures)))
]

pub returns : goal.returns
returns c = found_run c.loop-at.invariant c.loop-at-test.false
