use Rattle.std.proofs.Common.{◌∙◌, ℕ, Some, ap, sym}
use Rattle.mq_message.specs.declared.message.Message.{Message}
use Rattle.std.proofs.lemmas.Option.{get_or_from_slice_get}
use Rattle.mq_message.proofs.Places.{has_index, at_index, without_is, rising_remove}
use Rattle.mq_select.specs.Queue.{in_nodes}
use Rattle.mq_select.proofs.Nodes.{all_filled, filled_is, index_is, node_is, node_not_empty, removed}
use Rattle.mq_select.proofs.queue.TypeQueue.take.Goals as goal

pub unwrap-index-requires : goal.unwrap-index-requires
unwrap-index-requires g c =
    let waits = rw (← c.self.view_is) at c.requires in
    rw (c.index_of.ensures ∙ index_is c.self.inside.nodes c.args.place c.self.invariant.0) (has_index c.args.place (in_nodes c.self.inside.nodes) waits)

pub unreachable-requires : goal.unreachable-requires
unreachable-requires g c =
    node_not_empty c.self.inside.nodes c.unwrap-index.result c.self.invariant.0 (c.in-None.ensures.taken)

pub invariant_of-self : goal.invariant_of-self
invariant_of-self g c =
    let index = sym (index_is c.self.inside.nodes c.args.place c.self.invariant.0) ∙ sym c.index_of.ensures ∙ c.unwrap-index.ensures in
    let is = removed c.self.inside.nodes c.taken_at.new.nodes c.unwrap-index.result c.self.invariant.0 c.taken_at.ensures.rest in
    (all_filled _ _ is, rw (filled_is _ _ is) (rising_remove c.args.place (in_nodes c.self.inside.nodes) c.unwrap-index.result index c.self.invariant.1))

pub returns : goal.returns
returns g c =
    let index = sym (index_is c.self.inside.nodes c.args.place c.self.invariant.0) ∙ sym c.index_of.ensures ∙ c.unwrap-index.ensures in
    let items = in_nodes c.self.inside.nodes in
    let message : ℕ × Message g.row.B.Denot = (c.in-Some.field-0-0, c.in-Some.message) in
    let here = node_is c.self.inside.nodes c.unwrap-index.result message c.self.invariant.0 c.in-Some.ensures.taken in
    let is = removed c.self.inside.nodes c.taken_at.new.nodes c.unwrap-index.result c.self.invariant.0 c.taken_at.ensures.rest in
    rw (← c.self.view_is)
    (record { taken = at_index c.args.place items c.unwrap-index.result message index ∙ ap (λ m. Some m.1) (get_or_from_slice_get items c.unwrap-index.result message message here); rest = filled_is _ _ is ∙ without_is c.args.place items c.unwrap-index.result c.self.invariant.1 index })
