use Rattle.std.proofs.Common.{arith, ◌≡◌, ◌<◌, ◌++◌, ◌∷◌, [], Some, sym, ◌∙◌}
use Rattle.std.proofs.lemmas.Option.{same_Some}
use Rattle.std.specs.Option.{option_or}
use Rattle.mq_queue.specs.declared.event.Event.{Event}
use Rattle.mq_queue.specs.declared.event.Event.TheVariants.{Removed}
use Rattle.mq_table.specs.Kept.{entries_of}
use Rattle.mq_table.specs.SlotParts.{some_base}
use Rattle.mq_table.specs.declared.limits.TheConstants.{MAX_PAST}
use Rattle.mq_table.proofs.SlotEnds.{removed_slot}
use Rattle.mq_table.proofs.slot.Slot.take_out.Goals as goal

pub invariant_of-self-in-Ok : goal.invariant_of-self-in-Ok
invariant_of-self-in-Ok g c =
    let room : entries_of c.args.self.now < MAX_PAST =
    omega arith in
    let there : c.self.inside.live ≡ Some c.in-Some-take.queue =
    sym c.take.ensures.value ∙ c.in-Some-take.is in
    let same : c.in-Some.queue ≡ c.in-Some-take.queue = same_Some _ _ (sym c.in-Some.is ∙ there) in
    let kept : c.either.result
    ≡ option_or (some_base c.in-Some-take.queue.base) c.self.inside.base =
    rw (← same) (rw (c.in_ok-kept.ensures.base, c.take-in-Ok.ensures.value) at c.either.ensures) in
    let e : Event = Removed c.args.seat c.args.moment in
    let grown : c.append.new.past.items
    ≡ c.self.inside.past.items ++ (c.in-Some-take.queue.tail ++ e ∷ []) =
    rw (c.prepare_end.ensures.items, c.in-Ok.ensures.answer.tail) at c.append.ensures in
    rw c.take.ensures.after
    (removed_slot _ _ _ _ _ _ _ _ _ (rw there at c.self.invariant) c.args.seat c.args.moment _ kept
    _ grown (rw (← c.self.view_is, there) at room))
