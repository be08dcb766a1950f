use Rattle.std.proofs.lemmas.Option.{none-some}
use Rattle.mq_message.proofs.Places.{rising_push}
use Rattle.mq_select.proofs.list.ListWaitingWaiting.put_prepared.Goals as goal

pub invariant_of-self : goal.invariant_of-self
invariant_of-self g c =
    let above = rw (← c.self.view_is) at c.requires.above in
    (rw c.in-Ok.ensures.items (rising_push _ _ _ c.self.invariant.0 above), λ x e. absurd (none-some x e))
