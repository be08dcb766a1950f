use Rattle.std.proofs.Common.{◌≡◌, ◌++◌, None, ap, inl, sym, ◌∙◌}
use Rattle.std.specs.List.{slice_get}
use Rattle.mq_trace.specs.Walk.{Trail, passed}
use Rattle.mq_trace.proofs.Parts.{nothing_first, passed_last}
use Rattle.mq_trace.proofs.trail.Trail.pass.Goals as goal

pub invariant_of-self-in-None : goal.invariant_of-self-in-None
invariant_of-self-in-None c = inl (nothing_first c.self.inside.past.rest (sym c.first.ensures ∙ c.in-None.is))

pub returns-in-None : goal.returns-in-None
returns-in-None c =
    let none : slice_get c.self.inside.past.rest 0 ≡ None = sym c.first.ensures ∙ c.in-None.is in
    let whole : Trail → Trail = λ t. record { log = c.self.inside.past.log ++ t.log; rest = c.self.inside.past.rest ++ t.rest } in
    ap whole c.pass-in-None.ensures
    ∙ passed_last c.self.inside.past.log c.self.inside.past.rest c.self.inside.last.log c.self.inside.last.rest none
    ∙ ap (λ (t : Trail). passed t.log t.rest) c.self.view_is
