use Rattle.std.proofs.Common.{arith}
use Rattle.mq_tree.proofs.Closing.{buddy_in, joined}
use Rattle.mq_tree.proofs.give.join.Goals as goal

pub bounds-nodes-buddy : goal.bounds-nodes-buddy
bounds-nodes-buddy c = buddy_in c.loop-nodes.invariant.freed.opened c.buddy.result c.buddy.ensures.over c.buddy.ensures.other

pub loop-nodes-preserved : goal.loop-nodes-preserved
loop-nodes-preserved c = joined c.loop-nodes.invariant c.buddy.result c.buddy.ensures.over c.buddy.ensures.other (omega (arith, c.loop-nodes-test.true))
