use Rattle.mq_tree.proofs.Lending.{DownTo}
use Rattle.mq_tree.proofs.lend.first_free.Given as goal

abbrev pub invariant-loop-at : goal.invariant-loop-at
invariant-loop-at l = DownTo l.height l.order l.whole l.at l.nodes

abbrev pub decreases-loop-at : goal.decreases-loop-at
decreases-loop-at l = l.whole
