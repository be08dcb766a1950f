use Rattle.std.proofs.Common.{refl, sym, ap, ◌∙◌, arith}
use Rattle.mq_tree.specs.Blocks.{block}
use Rattle.mq_tree.specs.LentSet.{free_pages}
use Rattle.mq_tree.specs.Trees.{lent_blocks}
use Rattle.mq_tree.proofs.LentSets.{left_not_lent}
use Rattle.mq_tree.proofs.Trees.{blocks_lent_set}
use Rattle.mq_tree.proofs.Totals.{refilled, seen, given_free, free_bound}
use Rattle.mq_tree.proofs.tree.OrderTree.give.Goals as goal

pub invariant_of-self : goal.invariant_of-self
invariant_of-self c =
    let lent = lent_blocks c.self.inside.height c.self.inside.nodes.items in
    let none = sym (rw c.as_mut_slice.ensures.value at c.give_in.ensures.lent) ∙ c.if-not-give_in.true in
    let left = rw c.as_mut_slice.ensures.value at c.give_in.ensures.left in
    let kept = left.lent_is ∙ left_not_lent (block c.args.start c.args.order) lent none in
    rw (refilled c.self.invariant.tree c.self.inside.nodes.ok.0 left.tree)
    (record { tree = left.tree; free_is = c.self.invariant.free_is ∙ ap (free_pages c.self.inside.height) (sym kept) })

pub returns-then-not-give_in : goal.returns-then-not-give_in
returns-then-not-give_in c =
    let lent = lent_blocks c.self.inside.height c.self.inside.nodes.items in
    let none = sym (rw c.as_mut_slice.ensures.value at c.give_in.ensures.lent) ∙ c.if-not-give_in.true in
    let all = seen c.self.invariant.tree c.self.inside.nodes.ok.0 (rw c.as_mut_slice.ensures.value at c.give_in.ensures.left) in
    rw (← c.self.view_is, all) (record {
      lent = sym none;
      left = refl;
      kept = rw (left_not_lent (block c.args.start c.args.order) lent none) refl;
      lent_set = rw (← all) (blocks_lent_set c.self.inside.height 1 _);
    })

pub overflow_add-self : goal.overflow_add-self
overflow_add-self c =
    let more = given_free c.self.invariant c.args.order c.args.start (sym (rw c.as_mut_slice.ensures.value at c.give_in.ensures.lent) ∙ c.if-not-give_in.false) (rw c.as_mut_slice.ensures.value at c.give_in.ensures.left) in
    omega (arith, more, c.pages_in.ensures, free_bound c.self.inside.height c.give_in.new.nodes c.self.invariant.tree.low)

pub invariant_of-self-2 : goal.invariant_of-self-2
invariant_of-self-2 c =
    let left = rw c.as_mut_slice.ensures.value at c.give_in.ensures.left in
    let more = given_free c.self.invariant c.args.order c.args.start (sym (rw c.as_mut_slice.ensures.value at c.give_in.ensures.lent) ∙ c.if-not-give_in.false) left in
    rw (refilled c.self.invariant.tree c.self.inside.nodes.ok.0 left.tree) (record { tree = left.tree; free_is = omega (arith, more, c.pages_in.ensures) })

pub returns-clause-left : goal.returns-clause-left
returns-clause-left c =
    rw (← c.self.view_is) (ap (λ x. record { height = c.self.inside.height; lent = x })
    (seen c.self.invariant.tree c.self.inside.nodes.ok.0 (rw c.as_mut_slice.ensures.value at c.give_in.ensures.left)))

pub returns-clause-lent_set : goal.returns-clause-lent_set
returns-clause-lent_set c = blocks_lent_set c.self.inside.height 1 _
