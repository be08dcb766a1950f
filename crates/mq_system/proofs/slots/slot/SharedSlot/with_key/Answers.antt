use Rattle.std.proofs.Common.{◌≡◌, None, Some, rules, ◌∙◌}
use Rattle.std.specs.Ordering.{int_eq}
use Rattle.mq_table.specs.Kept.{is_live_kept}
use Rattle.mq_table.specs.KeptPart.{whole}
use Rattle.mq_table.specs.KeptShown.{last_id_now}
use Rattle.mq_table.proofs.Kepts.{last_id_is}
use Rattle.mq_system.proofs.AnswerLemmas.{id_where, with_key_is}
use Rattle.mq_system.proofs.KeysLemmas.{slot_of_last}
use Rattle.mq_system.proofs.slots.slot.SharedSlot.with_key.Goals as goal

pub returns-then-key-clause-value : goal.returns-then-key-clause-value
returns-then-key-clause-value g c =
    let slot = c.self.inside.parts.slot in
    let found : Some c.last_id.result
    ≡ id_where (is_live_kept slot) (int_eq slot.key c.args.key) (last_id_now slot) =
    search (rules, c.last_id.ensures) in
    rw (← c.self.view_is)
    (with_key_is c.self.inside.parts.writer.events slot c.self.invariant.published.kept c.args.key _ found)

pub returns-then-key-clause-within : goal.returns-then-key-clause-within
returns-then-key-clause-within g c =
    let s = whole c.self.inside.parts.writer.events c.self.inside.parts.slot in
    rw (← c.self.view_is)
    (rw (c.last_id.ensures ∙ last_id_is _ _ c.self.invariant.published.kept)
    (slot_of_last s c.holds.ensures.numbered))

pub returns-else-is_live-clause-value : goal.returns-else-is_live-clause-value
returns-else-is_live-clause-value g c =
    let slot = c.self.inside.parts.slot in
    let none : None ≡ id_where (is_live_kept slot) (int_eq slot.key c.args.key) (last_id_now slot) =
    search rules in
    rw (← c.self.view_is)
    (with_key_is c.self.inside.parts.writer.events slot c.self.invariant.published.kept c.args.key _ none)
