use Rattle.std.proofs.Common.{◌≡◌, ◌∙◌, ◌∷◌, [], sym}
use Rattle.std.proofs.lemmas.List.Elements.{All-nil, All-cons, All-append}
use Rattle.std.proofs.lemmas.Option.{none-some}
use Rattle.mq_select.proofs.same.SameType.put_prepared.Goals as goal

pub invariant_of-self : goal.invariant_of-self
invariant_of-self g c =
    let prepared = rw (← c.self.view_is) at c.requires.prepared in
    let of_type = c.self.invariant.1 _ prepared in
    let one = All-cons (λ m. m.1.mtype ≡ c.self.inside.mtype) (c.args.place, c.args.message) [] of_type (All-nil _) in
    let all = All-append (λ m. m.1.mtype ≡ c.self.inside.mtype) c.self.inside.list.messages ((c.args.place, c.args.message) ∷ []) c.self.invariant.0 one in
    (rw c.put_prepared.ensures.added all, λ x e. absurd (none-some x (sym c.put_prepared.ensures.unprepared ∙ e)))
