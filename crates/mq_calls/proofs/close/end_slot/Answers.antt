use Rattle.std.proofs.Common.{◌≡◌, sym, ap, ◌∙◌}
use Rattle.std.specs.Option.{option_or}
use Rattle.mq_queue.specs.declared.base.Base.{Base}
use Rattle.mq_table.specs.Kept.{KeptSlot}
use Rattle.mq_table.specs.SlotParts.{some_base}
use Rattle.mq_calls.proofs.SlotLemmas.{count_of}
use Rattle.mq_calls.proofs.close.end_slot.Goals as goal

pub returns-in-Some-clause-slot : goal.returns-in-Some-clause-slot
returns-in-Some-clause-slot g c =
    let parts = rw c.in-Some.is at c.into_parts-cut.ensures.parts in
    let own : c.into_parts-own.result.0 ≡ c.in-Some.queue.base =
    c.into_parts-own.ensures.base ∙ c.into_parts-log.ensures.base in
    let based =
    c.base_shown-base.ensures
    ∙ ap (λ (base : Base). option_or (some_base base) c.into_parts-cut.result.0.base) own in
    let tail = c.into_parts-own.ensures.tail ∙ c.into_parts-log.ensures.tail in
    let left =
    count_of g.B.Body.bytes c.in-Some.queue c.figures-left.result c.figures-left.ensures
    c.holds.ensures in
    rw parts (cc (based, tail, left))

pub returns-in-Some-clause-messages : goal.returns-in-Some-clause-messages
returns-in-Some-clause-messages g c =
    let parts = rw c.in-Some.is at c.into_parts-cut.ensures.parts in
    c.into_parts-log.ensures.messages ∙ sym (ap (λ (s : KeptSlot _). s.messages) parts)

pub returns-in-None-clause-slot : goal.returns-in-None-clause-slot
returns-in-None-clause-slot g c =
    let parts = rw c.in-None.is at c.into_parts-cut.ensures.parts in
    rw parts (cc c.into_parts-cut.ensures.none)

pub returns-in-None-clause-none : goal.returns-in-None-clause-none
returns-in-None-clause-none g c =
    let parts = rw c.in-None.is at c.into_parts-cut.ensures.parts in
    ap (λ (s : KeptSlot _). s.messages) parts
