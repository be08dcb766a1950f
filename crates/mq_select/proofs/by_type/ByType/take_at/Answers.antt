use Rattle.std.proofs.Common.{◌∙◌, FitsSigned, w64, refl, sym}
use Rattle.std.proofs.lemmas.Int.{to_z-of_z}
use Rattle.std.proofs.lemmas.Option.{none-some}
use Rattle.mq_select.proofs.Takes.{later_of, placed, taken_of, type_there}
use Rattle.mq_select.proofs.by_type.ByType.take_at.Goals as goal

pub type_at-mtype-requires : goal.type_at-mtype-requires
type_at-mtype-requires g c =
    let before = rw (← c.forget_prepared.ensures.unchanged) at c.requires in
    let waits = rw (← c.self.view_is) at before in
    type_there _ _ _ _ _ _ c.args.place c.self.invariant.0 waits

pub take-message-requires : goal.take-message-requires
take-message-requires g c =
    let fits : FitsSigned w64 c.type_at-mtype.result = record { sfits = c.type_at-mtype.type_inv } in
    let p = placed _ _ _ _ _ _ c.args.place c.type_at-mtype.result c.self.invariant.0 c.type_at-mtype.ensures in
    simp (to_z-of_z, fits) (rw p.queued refl)

pub renew-requires : goal.renew-requires
renew-requires g c =
    let fits : FitsSigned w64 c.type_at-mtype.result = record { sfits = c.type_at-mtype.type_inv } in
    let p = placed _ _ _ _ _ _ c.args.place c.type_at-mtype.result c.self.invariant.0 c.type_at-mtype.ensures in
    let at = simp (to_z-of_z, fits) at c.take-message.ensures.at in
    let first = simp (to_z-of_z, fits) at c.first_of.ensures in
    simp (to_z-of_z, fits)
    record { later = later_of _ _ _ c.take-message.new.queues.entries _ _ _ c.args.place c.type_at-mtype.result c.first_of.result c.self.invariant.0 p at first }

pub invariant_of-self : goal.invariant_of-self
invariant_of-self g c =
    let fits : FitsSigned w64 c.type_at-mtype.result = record { sfits = c.type_at-mtype.type_inv } in
    let p = placed _ _ _ _ _ _ c.args.place c.type_at-mtype.result c.self.invariant.0 c.type_at-mtype.ensures in
    let none = rw (← c.self.view_is) at c.forget_prepared.ensures.unprepared in
    let index = rw none at c.self.invariant.0 in
    let at = simp (to_z-of_z, fits) at c.take-message.ensures.at in
    let first = simp (to_z-of_z, fits) at c.first_of.ensures in
    let front = simp (to_z-of_z, fits) at (rw first at c.renew.ensures) in
    let whole = taken_of _ _ _ c.take-message.new.queues.entries _ _ _ _ c.args.place c.type_at-mtype.result index p c.take-message.ensures.ordered at front c.swap_remove-mtype.ensures.updates.0 in
    (rw none whole.1, λ x e. absurd (none-some x (sym none ∙ e)))

pub returns : goal.returns
returns g c =
    let fits : FitsSigned w64 c.type_at-mtype.result = record { sfits = c.type_at-mtype.type_inv } in
    let p = placed _ _ _ _ _ _ c.args.place c.type_at-mtype.result c.self.invariant.0 c.type_at-mtype.ensures in
    let none = rw (← c.self.view_is) at c.forget_prepared.ensures.unprepared in
    let index = rw none at c.self.invariant.0 in
    let at = simp (to_z-of_z, fits) at c.take-message.ensures.at in
    let first = simp (to_z-of_z, fits) at c.first_of.ensures in
    let front = simp (to_z-of_z, fits) at (rw first at c.renew.ensures) in
    let whole = taken_of _ _ _ c.take-message.new.queues.entries _ _ _ _ c.args.place c.type_at-mtype.result index p c.take-message.ensures.ordered at front c.swap_remove-mtype.ensures.updates.0 in
    let taken = simp (to_z-of_z, fits) at c.take-message.ensures.taken in
    record { taken = rw (← c.forget_prepared.ensures.unchanged, ← c.self.view_is) (p.at ∙ sym p.queued ∙ taken); rest = rw (← c.forget_prepared.ensures.unchanged, ← c.self.view_is) whole.0; unprepared = none }
