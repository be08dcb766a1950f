use Rattle.std.proofs.lemmas.Option.{none-some}
use Rattle.mq_message.proofs.Places.{without_is}
use Rattle.mq_select.proofs.list.ListWaitingWaiting.take.Goals as goal

pub returns-then-is_first-clause-rest : goal.returns-then-is_first-clause-rest
returns-then-is_first-clause-rest g c =
    let items = c.self.inside.messages.items in
    let first = c.is_first.ensures c.if-is_first.true in
    rw (← c.self.view_is) (cc (c.pop_front.ensures.rest, without_is c.args.place items 0 c.self.invariant.0 first))

pub invariant_of-self-2 : goal.invariant_of-self-2
invariant_of-self-2 g c = (c.take_behind.ensures.rising, λ x e. absurd (none-some x e))
