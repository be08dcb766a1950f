use Rattle.std.proofs.Common.{sym, FitsSigned, w64, rules}
use Rattle.std.proofs.lemmas.Int.{to_z-of_z}
use Rattle.mq_select.proofs.Lowests.{least_found}
use Rattle.mq_select.proofs.by_type.ByType.lowest_within.Goals as goal

pub returns-in-Some : goal.returns-in-Some
returns-in-Some g c =
    let fits : FitsSigned w64 c.in-Some.lowest = search rules in
    let within = simp (to_z-of_z, fits) at c.if-is_within.ensures in
    let found = least_found _ _ _ _ _ _ c.args.bound _ c.self.invariant.0 c.in-Some.ensures in
    rw (← c.self.view_is) (simp (to_z-of_z, fits) (sym (rw (← within) at found)))

pub returns-in_default : goal.returns-in_default
returns-in_default g c =
    let fits : FitsSigned w64 c.in-Some.lowest = search rules in
    let within = simp (to_z-of_z, fits) at c.if-is_within.ensures in
    let found = least_found _ _ _ _ _ _ c.args.bound _ c.self.invariant.0 c.in-Some.ensures in
    rw (← c.self.view_is) (sym (rw (← within) at found))

pub returns-in_default-2 : goal.returns-in_default-2
returns-in_default-2 g c =
    let found = least_found _ _ _ _ _ _ c.args.bound _ c.self.invariant.0 c.in_default.ensures in
    rw (← c.self.view_is) (sym found)
