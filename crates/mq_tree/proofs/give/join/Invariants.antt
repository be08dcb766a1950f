use Rattle.mq_tree.proofs.Closing.{Joins}
use Rattle.mq_tree.proofs.give.join.Given as goal

abbrev pub invariant-loop-nodes : goal.invariant-loop-nodes
invariant-loop-nodes l = Joins l.height l.at l.free l.fn.nodes l.nodes

abbrev pub decreases-loop-nodes : goal.decreases-loop-nodes
decreases-loop-nodes l = l.at
