use Rattle.std.proofs.Common.{◌∙◌, Some, ap}
use Rattle.std.proofs.lemmas.Int.{to_z-of_z}
use Rattle.std.proofs.lemmas.Option.{same_Some}
use Rattle.mq_select.specs.Layered.{IsLayered}
use Rattle.mq_select.proofs.Layers.{rising_alone, room_alone}
use Rattle.mq_select.proofs.layered.Layered.of_one.Goals as goal

pub invariant_of-result : goal.invariant_of-result
invariant_of-result g c =
    let messages = ap (λ l. l.messages) c.of.ensures.listed ∙ c.from_parts.ensures.messages in
    let prepared = ap (λ l. l.prepared) c.of.ensures.listed ∙ c.from_parts.ensures.prepared ∙ c.into_parts-messages.ensures.prepared ∙ c.requires.prepared in
    let mtype = simp (to_z-of_z, c.ranges.mtype) at c.of.ensures.mtype in
    let layered : IsLayered c.of.result c.fresh.result (Some c.args.mtype) = record { rising = rising_alone c.of.result.messages c.fresh.result.messages (rw messages c.into_parts-messages.ensures.rising) c.fresh.ensures.empty; room = λ t e. room_alone c.of.result c.fresh.result t c.fresh.ensures.empty (mtype ∙ same_Some _ _ e) (prepared ∙ e) } in
    simp (to_z-of_z, c.ranges.mtype) layered
