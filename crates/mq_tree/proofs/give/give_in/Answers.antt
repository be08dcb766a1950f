use Rattle.std.proofs.Common.{sym, ap, ◌∙◌, set}
use Rattle.mq_tree.specs.Blocks.{block}
use Rattle.mq_tree.specs.Trees.{lent_blocks}
use Rattle.mq_tree.proofs.LentSets.{left_not_lent}
use Rattle.mq_tree.proofs.Trees.{blocks_lent_set}
use Rattle.mq_tree.proofs.Giving.{told_lent, told_not_lent, told_freed, freed_open}
use Rattle.mq_tree.proofs.give.give_in.Goals as goal

pub returns-in_default : goal.returns-in_default
returns-in_default c =
    let none = c.in_default.ensures (lent_blocks c.args.height c.args.nodes.now) (blocks_lent_set c.args.height 1 c.args.nodes.now) in
    record { order = tt; lent = sym none; left = record { tree = c.requires; lent_is = sym (left_not_lent (block c.args.start c.args.order) (lent_blocks c.args.height c.args.nodes.now) none) } }

pub returns-then-nodes-at-ne-LENT : goal.returns-then-nodes-at-ne-LENT
returns-then-nodes-at-ne-LENT c =
    let none = told_not_lent c.requires c.in-Some.ensures c.if-nodes-at-ne-LENT.true in
    record { order = tt; lent = sym none; left = record { tree = c.requires; lent_is = sym (left_not_lent (block c.args.start c.args.order) (lent_blocks c.args.height c.args.nodes.now) none) } }

pub join-run-requires : goal.join-run-requires
join-run-requires c = rw c.free_run.ensures (freed_open c.requires c.in-Some.ensures c.if-nodes-at-ne-LENT.false)

pub returns-clause-lent : goal.returns-clause-lent
returns-clause-lent c = sym (told_lent c.requires c.in-Some.ensures c.if-nodes-at-ne-LENT.false)

pub returns-clause-left : goal.returns-clause-left
returns-clause-left c = record {
  tree = c.close.ensures.tree;
  lent_is =
      c.close.ensures.lent_is ∙ c.join-run.ensures.unchanged ∙ ap (λ v. lent_blocks c.args.height (set c.args.nodes.now c.in-Some.at v)) c.free_run.ensures
      ∙ told_freed c.requires c.in-Some.ensures c.if-nodes-at-ne-LENT.false;
}
