use Rattle.std.proofs.Common.{ap, ◌∙◌}
use Rattle.mq_tree.specs.Fit.{largest}
use Rattle.mq_tree.proofs.Totals.{root_largest}
use Rattle.mq_tree.proofs.tree.OrderTree.largest.Goals as goal

pub returns : goal.returns
returns c =
    let root = root_largest c.self.invariant.tree ∙ ap (λ v. largest v.height v.lent) c.self.view_is in
    record { value = cc (c.largest_in.ensures, c.as_slice.ensures.value, root) }
