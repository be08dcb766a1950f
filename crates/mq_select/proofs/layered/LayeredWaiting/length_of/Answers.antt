use Rattle.std.proofs.Common.{◌∙◌, rules, sym}
use Rattle.mq_select.proofs.Layers.{message_before, message_behind}
use Rattle.mq_select.proofs.layered.LayeredWaiting.length_of.Goals as goal

pub length_of-requires : goal.length_of-requires
length_of-requires g c =
    let waits = rw (← c.self.view_is) at c.requires in
    rw (← message_behind c.args.place c.self.inside.first.messages c.self.inside.rest.messages c.self.invariant.rising (sym c.is_behind.ensures.reached ∙ c.if-is_behind.true)) waits

pub length_of-requires-else-is_behind : goal.length_of-requires-else-is_behind
length_of-requires-else-is_behind g c =
    let waits = rw (← c.self.view_is) at c.requires in
    rw (← message_before c.args.place c.self.inside.first.messages c.self.inside.rest.messages (c.is_behind.ensures.before c.if-is_behind.false)) waits

pub returns-then-is_behind : goal.returns-then-is_behind
returns-then-is_behind g c =
    rw (← c.self.view_is, message_behind c.args.place c.self.inside.first.messages c.self.inside.rest.messages c.self.invariant.rising (sym c.is_behind.ensures.reached ∙ c.if-is_behind.true)) (search (rules, c.length_of.ensures))

pub returns-else-is_behind : goal.returns-else-is_behind
returns-else-is_behind g c =
    rw (← c.self.view_is, message_before c.args.place c.self.inside.first.messages c.self.inside.rest.messages (c.is_behind.ensures.before c.if-is_behind.false)) (search (rules, c.length_of-else-is_behind.ensures))
