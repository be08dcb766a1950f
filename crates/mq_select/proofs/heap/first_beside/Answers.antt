use Rattle.std.proofs.Common.{◌∙◌, sym, not, ap, arith}
use Rattle.std.specs.Ordering.{int_eq}
use Rattle.std.proofs.lemmas.Int.{to_z-of_z}
use Rattle.mq_select.proofs.Entries.{root_least, beside_first}
use Rattle.mq_select.proofs.heap.first_beside.Goals as goal

pub returns-then-is_type_at : goal.returns-then-is_type_at
returns-then-is_type_at c =
    let is = simp (to_z-of_z, c.ranges.other) at c.is_type_at.ensures in
    beside_first c.args.heap.now.entries c.args.other c.least_under.result c.requires c.len.ensures.unique (sym is ∙ c.if-is_type_at.true) c.least_under.ensures

pub returns-else-is_type_at : goal.returns-else-is_type_at
returns-else-is_type_at c =
    let is = simp (to_z-of_z, c.ranges.other) at c.is_type_at.ensures in
    root_least c.args.heap.now.entries (λ t. not (int_eq t c.args.other)) c.requires (omega arith) (ap not (sym is ∙ c.if-is_type_at.false))
