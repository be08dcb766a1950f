use Rattle.mq_system.specs.Answer.{send_in_slot}
use Rattle.mq_system.specs.Many.{message_of}
use Rattle.mq_system.proofs.TurnLemmas.{single_answers}
use Rattle.mq_system.proofs.slots.slot.SharedSlot.send.Goals as goal

pub returns-clause-answer : goal.returns-clause-answer
returns-clause-answer g c =
    let parts = c.self.inside.parts in
    let sent = c.send-answer.ensures in
    let done = c.publish_rest.ensures in
    rw (← c.self.view_is, done.slot, done.events, sent.writer)
    (single_answers parts.writer.events parts.slot c.send-answer.new.self.slot c.args.seat.now c.publish_rest.new.seat
    (λ s. send_in_slot s c.args.id (message_of c.args.seat.now.number c.args.letter) c.args.moment)
    (λ r. r.refused) c.self.invariant.published.kept done.within
    (rw (← c.self.view_is) at c.requires.begun.known)
    (rw (done.events, sent.writer) at done.noted) c.send-answer.result (rw sent.writer at sent.answer) sent.slot)
