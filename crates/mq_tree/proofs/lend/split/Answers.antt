use Rattle.std.proofs.Common.{arith}
use Rattle.mq_tree.proofs.Splitting.{first_is, split_first, over_in, next_split, split_done}
use Rattle.mq_tree.proofs.lend.split.Goals as goal

pub loop-at-init : goal.loop-at-init
loop-at-init c = split_first c.requires _ c.free_run-free.result (first_is c.requires c.free_run-free.result c.free_run-free.ensures) c.free_run-free.ensures

pub bounds-nodes-at : goal.bounds-nodes-at
bounds-nodes-at c = over_in c.loop-at.invariant (omega (arith, c.loop-at-test.true))

pub loop-at-preserved : goal.loop-at-preserved
loop-at-preserved c = next_split c.loop-at.invariant (omega (arith, c.loop-at-test.true))

pub returns-clause-found : goal.returns-clause-found
returns-clause-found c = rw (first_is c.requires c.free_run-free.result c.free_run-free.ensures) c.requires.found

pub returns-clause-parted : goal.returns-clause-parted
returns-clause-parted c = split_done c.loop-at.invariant (omega (arith, c.loop-at-test.false))
