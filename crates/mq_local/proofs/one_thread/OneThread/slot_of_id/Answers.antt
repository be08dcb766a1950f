use Rattle.std.proofs.Common.{rules, sym, ap, ◌∙◌, ◌<◌, length}
use Rattle.std.proofs.lemmas.List.{get_or_default}
use Rattle.mq_arena.specs.Text.{PlainText}
use Rattle.mq_table.specs.Kept.{KeptSlot}
use Rattle.mq_table.specs.SlotParts.{empty_kept}
use Rattle.mq_local.proofs.one_thread.OneThread.slot_of_id.Goals as goal

pub look-requires : goal.look-requires
look-requires g c =
    let k = c.slot-k.result in
    let within : k < length c.self.inside.slots.items = search rules in
    let is = c.index.ensures ∙ get_or_default _ k _ (empty_kept k) within in
    sym c.slot-k.ensures.value ∙ sym (c.self.invariant.placed k within)
    ∙ ap (λ (s : KeptSlot PlainText). s.number) (sym is)
