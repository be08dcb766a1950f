use Rattle.mq_tree.proofs.Closing.{Closes}
use Rattle.mq_tree.proofs.close.close.Given as goal

abbrev pub invariant-loop-node : goal.invariant-loop-node
invariant-loop-node l = Closes l.height l.at l.node l.fn.nodes l.nodes

abbrev pub decreases-loop-node : goal.decreases-loop-node
decreases-loop-node l = l.at
