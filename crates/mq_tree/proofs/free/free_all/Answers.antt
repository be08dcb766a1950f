use Rattle.std.proofs.Common.{◌-◌, ◌^◌, ◌<◌, arith}
use Rattle.mq_tree.proofs.Freeing.{pages_free, all_free, one_more, left_small}
use Rattle.mq_tree.proofs.free.free_all.Goals as goal

pub loop-at-init : goal.loop-at-init
loop-at-init c = pages_free c.args.height c.pages_in-pages.result c.args.nodes.now c.pages_in-pages.ensures c.requires

pub overflow_add-nodes : goal.overflow_add-nodes
overflow_add-nodes c =
    let below : c.loop-at.at - 1 < 2 ^ c.args.height = omega (arith, c.loop-at.auto.at, c.pages_in-pages.ensures, c.loop-at-test.true) in
    let small = left_small c.loop-at.invariant (c.loop-at.at - 1) (omega (arith, c.loop-at-test.true)) (omega (arith, c.loop-at-test.true)) below in
    omega (arith, small, c.requires.low)

pub loop-at-preserved : goal.loop-at-preserved
loop-at-preserved c =
    one_more c.loop-at.invariant (c.loop-at.at - 1) (omega (arith, c.loop-at-test.true)) (omega (arith, c.loop-at-test.true))
    (omega (arith, c.loop-at.auto.at, c.pages_in-pages.ensures, c.loop-at-test.true))

pub returns : goal.returns
returns c = all_free c.loop-at.invariant c.loop-at-test.false
