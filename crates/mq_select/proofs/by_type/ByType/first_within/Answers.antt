use Rattle.std.proofs.Common.{◌∙◌, FitsSigned, w64, rules}
use Rattle.std.proofs.lemmas.Int.{to_z-of_z}
use Rattle.mq_select.proofs.Lowests.{place_found}
use Rattle.mq_select.proofs.by_type.ByType.first_within.Goals as goal

pub returns-in-Some : goal.returns-in-Some
returns-in-Some g c =
    let fits : FitsSigned w64 c.in-Some.lowest = search rules in
    let placed = simp (to_z-of_z, fits) at c.place_of.ensures in
    let lowest = rw (← c.self.view_is) at c.in-Some.ensures in
    let found = place_found _ _ _ _ _ _ c.args.bound _ c.self.invariant.0 lowest in
    rw (← c.self.view_is) (placed ∙ found)

pub returns-in-None : goal.returns-in-None
returns-in-None g c =
    let lowest = rw (← c.self.view_is) at c.in-None.ensures in
    let found = place_found _ _ _ _ _ _ c.args.bound _ c.self.invariant.0 lowest in
    rw (← c.self.view_is) found
