use Rattle.std.proofs.Common.{arith, ◌∙◌, ◌<◌, ℕ, Some, ap, refl, sym}
use Rattle.std.specs.Ordering.{int_eq}
use Rattle.std.proofs.lemmas.Int.{to_z-of_z}
use Rattle.std.proofs.lemmas.List.Elements.{All-filter, All-same, recursion_from_All}
use Rattle.std.proofs.lemmas.Option.{none-some}
use Rattle.mq_message.specs.declared.message.Message.{Message}
use Rattle.mq_select.specs.ByType.{merged, of_type, queue_of}
use Rattle.mq_select.proofs.Changes.{front_below, put_last}
use Rattle.mq_select.proofs.by_type.ByType.put_at.Goals as goal

pub enter-requires-clause-above : goal.enter-requires-clause-above
enter-requires-clause-above g c t n h =
    let above = rw (← c.self.view_is) at c.requires.room.above in
    let below = front_below (λ m. m.mtype) _ c.args.place t n (recursion_from_All (λ (m : ℕ × Message g.row.B.Denot). m.0 < c.args.place) _ above) (sym (c.self.invariant.0.first t) ∙ h) in
    omega (arith, below)

pub enter-requires-clause-room : goal.enter-requires-clause-room
enter-requires-clause-room g c =
    let was = (rw (← c.self.view_is) at c.requires.room.prepared) ∙ ap Some c.requires.of_type in
    (c.self.invariant.1 c.args.mtype was).first

pub unreachable-requires : goal.unreachable-requires
unreachable-requires g c =
    let was = (rw (← c.self.view_is) at c.requires.room.prepared) ∙ ap Some c.requires.of_type in
    let ok = c.in-Err.ensures.succeeds (c.self.invariant.1 c.args.mtype was).place in
    cc (ok)

pub put-requires : goal.put-requires
put-requires g c =
    let ready = c.self.invariant.1 c.args.mtype ((rw (← c.self.view_is) at c.requires.room.prepared) ∙ ap Some c.requires.of_type) in
    let above = rw (← c.self.view_is) at c.requires.room.above in
    let all = merged c.self.inside.queues.entries in
    let P : ℕ × Message g.row.B.Denot → Type 0 = λ m. m.0 < c.args.place in
    let later = All-same P (queue_of c.self.inside.queues.entries c.args.mtype) (of_type (λ m. m.mtype) all c.args.mtype) (c.self.invariant.0.parted c.args.mtype) (All-filter (λ (m : ℕ × Message g.row.B.Denot). int_eq m.1.mtype c.args.mtype) P all above) in
    simp (to_z-of_z, c.ranges.mtype) (record { there = ready.queue; room = ready.node; few = ready.few; above = later })

pub invariant_of-self : goal.invariant_of-self
invariant_of-self g c =
    let was = (rw (← c.self.view_is) at c.requires.room.prepared) ∙ ap Some c.requires.of_type in
    let above = rw (← c.self.view_is) at c.requires.room.above in
    let index = rw was at c.self.invariant.0 in
    let at = simp (to_z-of_z, c.ranges.mtype) at c.put.ensures.at in
    let front = simp (to_z-of_z, c.ranges.mtype) at c.enter.ensures in
    let type = simp (to_z-of_z, c.ranges.mtype) at c.in-Ok.ensures.updates.0 in
    let whole = put_last _ _ _ c.put.new.queues.entries _ _ _ _ c.args.mtype c.args.place c.args.message index c.requires.of_type (recursion_from_All (λ (m : ℕ × Message g.row.B.Denot). m.0 < c.args.place) _ above) c.put.ensures.ordered at front type in
    (whole.1, λ x e. absurd (none-some x e))

pub returns : goal.returns
returns g c =
    let was = (rw (← c.self.view_is) at c.requires.room.prepared) ∙ ap Some c.requires.of_type in
    let above = rw (← c.self.view_is) at c.requires.room.above in
    let index = rw was at c.self.invariant.0 in
    let at = simp (to_z-of_z, c.ranges.mtype) at c.put.ensures.at in
    let front = simp (to_z-of_z, c.ranges.mtype) at c.enter.ensures in
    let type = simp (to_z-of_z, c.ranges.mtype) at c.in-Ok.ensures.updates.0 in
    let whole = put_last _ _ _ c.put.new.queues.entries _ _ _ _ c.args.mtype c.args.place c.args.message index c.requires.of_type (recursion_from_All (λ (m : ℕ × Message g.row.B.Denot). m.0 < c.args.place) _ above) c.put.ensures.ordered at front type in
    record { added = rw (← c.self.view_is) whole.0; unprepared = refl }
