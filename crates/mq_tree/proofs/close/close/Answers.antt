use Rattle.std.proofs.Common.{arith}
use Rattle.mq_tree.proofs.Closing.{opened_in, buddy_in, half_in, closed, next_over}
use Rattle.mq_tree.proofs.close.close.Goals as goal

pub bounds-nodes-at : goal.bounds-nodes-at
bounds-nodes-at c = opened_in c.requires.opened

pub bounds-nodes-buddy : goal.bounds-nodes-buddy
bounds-nodes-buddy c = buddy_in c.loop-node.invariant.parted.opened c.buddy.result c.buddy.ensures.over c.buddy.ensures.other

pub bounds-nodes-at-in-loop-node : goal.bounds-nodes-at-in-loop-node
bounds-nodes-at-in-loop-node c = half_in c.loop-node.invariant.parted.opened

pub returns-then-node-over : goal.returns-then-node-over
returns-then-node-over c = record {
  tree = closed c.loop-node.invariant c.buddy.result c.buddy.ensures.over c.buddy.ensures.other (omega (arith, c.max-node-in-loop-node.ensures, c.if-node-over.true));
  lent_is = c.loop-node.invariant.lent_is;
}

pub bounds-nodes-at-in-loop-node-2 : goal.bounds-nodes-at-in-loop-node-2
bounds-nodes-at-in-loop-node-2 c = half_in c.loop-node.invariant.parted.opened

pub loop-node-preserved : goal.loop-node-preserved
loop-node-preserved c =
    rw c.max-node-in-loop-node.ensures
    (next_over c.loop-node.invariant c.buddy.result c.buddy.ensures.over c.buddy.ensures.other
    (λ e. omega (arith, c.if-node-over.false, c.max-node-in-loop-node.ensures, e)))
