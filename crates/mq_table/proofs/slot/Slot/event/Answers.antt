use Rattle.std.proofs.Common.{rules, arith, ◌≡◌, [], length, ◌∙◌}
use Rattle.mq_table.proofs.Kepts.{event_behind}
use Rattle.mq_table.proofs.slot.Slot.event.Goals as goal

pub returns-in-Some : goal.returns-in-Some
returns-in-Some g c =
    let count : c.len-past.result ≡ length c.self.inside.past.items = search rules in
    rw (← c.self.view_is, c.in-Some.is)
    (rw count at c.kept_event.ensures
    ∙ event_behind c.self.inside.first c.self.inside.past.items c.in-Some.queue.tail c.args.i
    (omega (arith, c.if-i-self.false)) (omega (arith, count, c.if-place-past.false)))

pub returns-in-None : goal.returns-in-None
returns-in-None g c =
    rw (← c.self.view_is, c.in-None.is)
    (event_behind c.self.inside.first c.self.inside.past.items [] c.args.i
    (omega (arith, c.if-i-self.false)) (omega (arith, c.len-past.ensures, c.if-place-past.false)))
