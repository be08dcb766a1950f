use Rattle.std.proofs.Common.{ap, sym, arith}
use Rattle.mq_tree.specs.Nodes.{node_at}
use Rattle.mq_tree.specs.Trees.{lent_blocks}
use Rattle.mq_tree.proofs.Fits.{fit_over}
use Rattle.mq_tree.proofs.Trees.{blocks_lent_set}
use Rattle.mq_tree.proofs.Totals.{refilled, seen, root_full, lent_free}
use Rattle.mq_tree.proofs.tree.OrderTree.lend.Goals as goal

pub returns-then-order-self-clause-fit : goal.returns-then-order-self-clause-fit
returns-then-order-self-clause-fit c =
    rw (← c.self.view_is) (sym (fit_over c.self.inside.height (lent_blocks c.self.inside.height c.self.inside.nodes.items) c.args.order c.if-order-self.true))

pub returns-then-order-self-clause-lent_set : goal.returns-then-order-self-clause-lent_set
returns-then-order-self-clause-lent_set c = rw (← c.self.view_is) (blocks_lent_set c.self.inside.height 1 c.self.inside.nodes.items)

pub returns-then-as_slice-free_run-clause-fit : goal.returns-then-as_slice-free_run-clause-fit
returns-then-as_slice-free_run-clause-fit c =
    rw (← c.self.view_is)
    (sym (root_full c.self.invariant.tree c.args.order (omega (arith, c.if-as_slice-free_run.true, c.free_run.ensures, ap (λ l. node_at l 1) c.as_slice.ensures.value))))

pub returns-then-as_slice-free_run-clause-lent_set : goal.returns-then-as_slice-free_run-clause-lent_set
returns-then-as_slice-free_run-clause-lent_set c = rw (← c.self.view_is) (blocks_lent_set c.self.inside.height 1 c.self.inside.nodes.items)

pub overflow_sub-self : goal.overflow_sub-self
overflow_sub-self c =
    let less = lent_free c.self.invariant c.args.order c.lend_in-start.result (rw c.as_mut_slice.ensures.value at c.lend_in-start.ensures.fit) (rw c.as_mut_slice.ensures.value at c.lend_in-start.ensures.lent) in
    omega (arith, less, c.pages_in.ensures)

pub invariant_of-self : goal.invariant_of-self
invariant_of-self c =
    let lent = rw c.as_mut_slice.ensures.value at c.lend_in-start.ensures.lent in
    let less = lent_free c.self.invariant c.args.order c.lend_in-start.result (rw c.as_mut_slice.ensures.value at c.lend_in-start.ensures.fit) lent in
    rw (refilled c.self.invariant.tree c.self.inside.nodes.ok.0 lent.tree) (record { tree = lent.tree; free_is = omega (arith, less, c.pages_in.ensures) })

pub returns-clause-lent : goal.returns-clause-lent
returns-clause-lent c =
    rw (← c.self.view_is) (ap (λ x. record { height = c.self.inside.height; lent = x })
    (seen c.self.invariant.tree c.self.inside.nodes.ok.0 (rw c.as_mut_slice.ensures.value at c.lend_in-start.ensures.lent)))

pub returns-clause-lent_set : goal.returns-clause-lent_set
returns-clause-lent_set c = blocks_lent_set c.self.inside.height 1 _
