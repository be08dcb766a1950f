use Rattle.std.proofs.Common.{◌≡◌, ◌∙◌, ◌==◌, not, sym}
use Rattle.std.proofs.lemmas.List.Elements.{All-filter}
use Rattle.std.proofs.lemmas.Option.{none-some}
use Rattle.mq_select.proofs.same.SameType.take.Goals as goal

pub invariant_of-self : goal.invariant_of-self
invariant_of-self g c =
    let all = All-filter (λ m. not (m.0 == c.args.place)) (λ m. m.1.mtype ≡ c.self.inside.mtype) c.self.inside.list.messages c.self.invariant.0 in
    (rw c.take.ensures.rest all, λ x e. absurd (none-some x (sym c.take.ensures.unprepared ∙ e)))
