use Rattle.std.proofs.Common.{set}
use Rattle.mq_tree.proofs.Splitting.{Splits}
use Rattle.mq_tree.proofs.lend.split.Given as goal

abbrev pub invariant-loop-at : goal.invariant-loop-at
invariant-loop-at l = Splits l.height l.run l.at l.free l.fn.nodes l.nodes (set l.fn.nodes l.first 0)

abbrev pub decreases-loop-at : goal.decreases-loop-at
decreases-loop-at l = l.at
