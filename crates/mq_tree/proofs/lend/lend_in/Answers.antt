use Rattle.std.proofs.Common.{◌∙◌}
use Rattle.mq_tree.proofs.Starts.{start_known}
use Rattle.mq_tree.proofs.lend.lend_in.Goals as goal

pub overflow_sub-result : goal.overflow_sub-result
overflow_sub-result c =
    rw (c.pages_in.ensures, c.pages_in-2.ensures) (start_known c.args.height c.args.order c.split-at.result c.split-at.ensures.found.place)

pub returns-clause-fit : goal.returns-clause-fit
returns-clause-fit c = rw (c.pages_in.ensures, c.pages_in-2.ensures) c.split-at.ensures.found.fit_is

pub returns-clause-lent : goal.returns-clause-lent
returns-clause-lent c = record {
  tree = c.close.ensures.tree;
  lent_is = rw (c.pages_in.ensures, c.pages_in-2.ensures) (c.close.ensures.lent_is ∙ c.split-at.ensures.lent ∙ c.split-at.ensures.found.lent_is);
}
