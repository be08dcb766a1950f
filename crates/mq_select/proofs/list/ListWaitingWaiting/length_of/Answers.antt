use Rattle.std.proofs.Common.{◌∙◌, sym, arith}
use Rattle.mq_message.proofs.Places.{has_index, at_index}
use Rattle.mq_select.proofs.list.ListWaitingWaiting.length_of.Goals as goal

pub unwrap-index-requires : goal.unwrap-index-requires
unwrap-index-requires g c =
    let waits = rw (← c.self.view_is) at c.requires in
    rw c.index_of.ensures (has_index c.args.place c.self.inside.messages.items waits)

pub returns : goal.returns
returns g c =
    let index = sym c.index_of.ensures ∙ c.unwrap-index.ensures in
    let at = at_index c.args.place c.self.inside.messages.items c.unwrap-index.result c.index.result.now index in
    let len = rw c.index.ensures at c.len.ensures in
    rw (← c.self.view_is, at) (omega (arith, len))
