use Rattle.std.proofs.Common.{◌∙◌, ◌<◌, arith, rules, sym}
use Rattle.std.proofs.lemmas.Grind.{common_steps}
use Rattle.std.proofs.lemmas.Option.{none-some}
use Rattle.mq_select.proofs.Layers.{all_behind, joined, rising_behind, rising_joined}
use Rattle.mq_select.proofs.layered.LayeredWaiting.put_prepared.Goals as goal

pub invariant_of-self : goal.invariant_of-self
invariant_of-self g c =
    let above = rw (← c.self.view_is) at c.requires.above in
    let none = (joined c.self.inside.rest.messages _ (sym c.is_joining.ensures ∙ c.if-is_joining.true)).0 in
    record { rising = rising_joined c.self.inside.first.messages c.self.inside.rest.messages _ _ c.self.invariant.rising above none c.put_prepared.ensures.done.added; room = λ t e. absurd (none-some t e) }

pub put_prepared-requires-else-is_joining : goal.put_prepared-requires-else-is_joining
put_prepared-requires-else-is_joining g c =
    let ready = rw (← c.self.view_is) at c.requires in
    record { prepared = first_of (search rules, grind (arith, common_steps)); above = all_behind (λ m. m.0 < c.args.place) c.self.inside.first.messages c.self.inside.rest.messages ready.above }

pub invariant_of-self-else-is_joining : goal.invariant_of-self-else-is_joining
invariant_of-self-else-is_joining g c =
    let above = rw (← c.self.view_is) at c.requires.above in
    record { rising = rising_behind c.self.inside.first.messages c.self.inside.rest.messages _ _ c.self.invariant.rising above c.put_prepared-else-is_joining.ensures.added; room = λ t e. absurd (none-some t e) }
