use Rattle.std.proofs.Common.{◌∙◌, true}
use Rattle.std.proofs.lemmas.List.Sorted.{IsPermutation-refl}
use Rattle.mq_select.proofs.Firsts.{least_found}
use Rattle.mq_select.proofs.Takes.{first_left, first_there, none_left}
use Rattle.mq_select.proofs.by_type.ByTypeWaiting.pop_any.Goals as goal

pub take_at-requires : goal.take_at-requires
take_at-requires g c =
    let found = least_found _ _ _ _ _ _ (λ _. true) _ c.self.invariant.0 c.in-Some.ensures in
    rw (← c.self.view_is) (first_there _ c.in-Some.place found)

pub returns-in-Some-clause-some : goal.returns-in-Some-clause-some
returns-in-Some-clause-some g c =
    let found = least_found _ _ _ _ _ _ (λ _. true) _ c.self.invariant.0 c.in-Some.ensures in
    let taken = rw (← c.self.view_is) at c.take_at.ensures.taken in
    let rest = rw (← c.self.view_is) at c.take_at.ensures.rest in
    let left = first_left _ c.take_at.new.self.messages c.in-Some.place c.take_at.result c.self.invariant.0.rising found taken rest in
    (c.in-Some.place, rw (← c.self.view_is, left) (IsPermutation-refl _))

pub returns-in-None-clause-none : goal.returns-in-None-clause-none
returns-in-None-clause-none g c =
    let found = least_found _ _ _ _ _ _ (λ _. true) _ c.self.invariant.0 c.in-None.ensures in
    let none = none_left _ found in
    let was = rw (← c.self.view_is) at c.forget_prepared.ensures.unchanged in
    (rw (← c.self.view_is) none, was ∙ none)
