use Rattle.std.proofs.Common.{◌∙◌, FitsSigned, w64, rules, sym}
use Rattle.std.proofs.lemmas.Int.{to_z-of_z}
use Rattle.std.proofs.lemmas.Option.{none-some}
use Rattle.mq_select.proofs.Changes.{forgotten}
use Rattle.mq_select.proofs.by_type.ByType.forget_prepared.Goals as goal

pub invariant_of-self : goal.invariant_of-self
invariant_of-self g c =
    let fits : FitsSigned w64 c.in-Some.mtype = search rules in
    let at = simp (to_z-of_z, fits) at c.forget_empty.ensures.at in
    let index = rw (sym c.in-Some.ensures.value) at c.self.invariant.0 in
    let whole = forgotten _ _ _ c.forget_empty.new.queues.entries _ _ c.in-Some.mtype index c.forget_empty.ensures.ordered at in
    (rw c.take.ensures.after whole.1, λ x e. absurd (none-some x (sym c.take.ensures.after ∙ e)))

pub returns-in-Some : goal.returns-in-Some
returns-in-Some g c =
    let fits : FitsSigned w64 c.in-Some.mtype = search rules in
    let at = simp (to_z-of_z, fits) at c.forget_empty.ensures.at in
    let index = rw (sym c.in-Some.ensures.value) at c.self.invariant.0 in
    let whole = forgotten _ _ _ c.forget_empty.new.queues.entries _ _ c.in-Some.mtype index c.forget_empty.ensures.ordered at in
    record { unchanged = rw (← c.self.view_is) whole.0; unprepared = c.take.ensures.after }
