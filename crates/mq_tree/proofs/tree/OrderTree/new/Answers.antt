use Rattle.std.proofs.Common.{ℕ, List, length, ap, arith}
use Rattle.mq_tree.proofs.Totals.{new_whole}
use Rattle.mq_tree.proofs.tree.OrderTree.new.Goals as goal

pub invariant_of-result : goal.invariant_of-result
invariant_of-result c =
    new_whole c.args.height c.pages_in-pages.result c.resize.new.self.len c.resize.new.self.items c.free_all.new.nodes c.pages_in-pages.ensures c.resize.new.self.ok.0
    (omega (arith, c.free_all.auto.nodes, c.as_mut_slice.ensures.len, ap (λ (l : List ℕ). length l) c.as_mut_slice.ensures.value)) c.free_all.ensures
