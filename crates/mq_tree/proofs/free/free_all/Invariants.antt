use Rattle.mq_tree.proofs.Freeing.{AreFreeFrom}
use Rattle.mq_tree.proofs.free.free_all.Given as goal

abbrev pub invariant-loop-at : goal.invariant-loop-at
invariant-loop-at l = AreFreeFrom l.height l.at l.nodes
