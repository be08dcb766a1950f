use Rattle.std.proofs.Common.{not}
use Rattle.std.specs.Ordering.{int_eq}
use Rattle.std.proofs.lemmas.Int.{to_z-of_z}
use Rattle.mq_select.proofs.Firsts.{least_found}
use Rattle.mq_select.proofs.by_type.ByType.first_other.Goals as goal

pub returns : goal.returns
returns g c =
    let least = simp (to_z-of_z, c.ranges.other) at c.least_beside.ensures in
    rw (← c.self.view_is)
    (least_found _ _ _ _ _ _ (λ t. not (int_eq t c.args.other)) c.least_beside.result c.self.invariant.0 least)
