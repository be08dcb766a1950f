use Rattle.mq_system.specs.Answer.{receive_in_slot}
use Rattle.mq_system.proofs.TurnLemmas.{single_answers}
use Rattle.mq_system.proofs.slots.slot.SharedSlot.receive.Goals as goal

pub returns-clause-answer : goal.returns-clause-answer
returns-clause-answer g c =
    let parts = c.self.inside.parts in
    let request = c.args.request.now in
    let received = c.receive-answer.ensures in
    let done = c.publish_rest.ensures in
    rw (← c.self.view_is, done.slot, done.events, received.writer)
    (single_answers parts.writer.events parts.slot c.receive-answer.new.self.slot c.args.seat.now c.publish_rest.new.seat
    (λ s. receive_in_slot s request.id request.size request.selection request.noerror c.args.seat.now.number request.moment)
    (λ r. r) c.self.invariant.published.kept done.within
    (rw (← c.self.view_is) at c.requires.begun.known)
    (rw (done.events, received.writer) at done.noted) c.receive-answer.result (rw received.writer at received.answer) received.slot)
