use Rattle.std.proofs.Common.{◌∙◌, ◌++◌, ap, refl, sym}
use Rattle.std.proofs.lemmas.Option.{none-some}
use Rattle.mq_select.proofs.Layers.{message_before, message_behind, rising_without, without_before, without_behind}
use Rattle.mq_select.proofs.layered.LayeredWaiting.take.Goals as goal

pub take_behind-requires : goal.take_behind-requires
take_behind-requires g c =
    let waits = rw (← c.self.view_is) at c.requires in
    rw (← message_behind c.args.place c.self.inside.first.messages c.self.inside.rest.messages c.self.invariant.rising (sym c.is_behind.ensures.reached ∙ c.if-is_behind.true)) waits

pub invariant_of-self : goal.invariant_of-self
invariant_of-self g c =
    let taken = rw c.unwrap.ensures at c.take_behind.ensures.taken in
    let left = ap (λ ms. c.self.inside.first.messages ++ ms) taken.rest ∙ sym (without_behind c.args.place c.self.inside.first.messages c.self.inside.rest.messages c.self.invariant.rising (sym c.is_behind.ensures.reached ∙ c.if-is_behind.true)) in
    record { rising = rising_without c.args.place (c.self.inside.first.messages ++ c.self.inside.rest.messages) _ c.self.invariant.rising left; room = λ t e. absurd (none-some t e) }

pub take-requires : goal.take-requires
take-requires g c =
    let waits = rw (← c.self.view_is) at c.requires in
    rw (← message_before c.args.place c.self.inside.first.messages c.self.inside.rest.messages (c.is_behind.ensures.before c.if-is_behind.false)) waits

pub invariant_of-self-else-is_behind : goal.invariant_of-self-else-is_behind
invariant_of-self-else-is_behind g c =
    let left = ap (λ ms. ms ++ c.self.inside.rest.messages) c.take.ensures.done.rest ∙ sym (without_before c.args.place c.self.inside.first.messages c.self.inside.rest.messages (c.is_behind.ensures.before c.if-is_behind.false)) in
    record { rising = rising_without c.args.place (c.self.inside.first.messages ++ c.self.inside.rest.messages) _ c.self.invariant.rising left; room = λ t e. absurd (none-some t e) }

pub returns-then-is_behind : goal.returns-then-is_behind
returns-then-is_behind g c =
    let here = sym c.is_behind.ensures.reached ∙ c.if-is_behind.true in
    let taken = rw c.unwrap.ensures at c.take_behind.ensures.taken in
    rw (← c.self.view_is)
    (record { taken = message_behind c.args.place c.self.inside.first.messages c.self.inside.rest.messages c.self.invariant.rising here ∙ taken.taken; rest = ap (λ ms. c.self.inside.first.messages ++ ms) taken.rest ∙ sym (without_behind c.args.place c.self.inside.first.messages c.self.inside.rest.messages c.self.invariant.rising here); unprepared = refl })

pub returns-else-is_behind : goal.returns-else-is_behind
returns-else-is_behind g c =
    let here = c.is_behind.ensures.before c.if-is_behind.false in
    rw (← c.self.view_is)
    (record { taken = message_before c.args.place c.self.inside.first.messages c.self.inside.rest.messages here ∙ c.take.ensures.done.taken; rest = ap (λ ms. ms ++ c.self.inside.rest.messages) c.take.ensures.done.rest ∙ sym (without_before c.args.place c.self.inside.first.messages c.self.inside.rest.messages here); unprepared = refl })
