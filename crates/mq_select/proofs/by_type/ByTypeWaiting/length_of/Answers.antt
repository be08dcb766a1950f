use Rattle.std.proofs.Common.{FitsSigned, w64, refl}
use Rattle.std.proofs.lemmas.Int.{to_z-of_z}
use Rattle.mq_select.proofs.Takes.{placed, type_there}
use Rattle.mq_select.proofs.by_type.ByTypeWaiting.length_of.Goals as goal

pub type_at-mtype-requires : goal.type_at-mtype-requires
type_at-mtype-requires g c =
    let waits = rw (← c.self.view_is) at c.requires in
    type_there _ _ _ _ _ _ c.args.place c.self.invariant.0 waits

pub length_of-requires : goal.length_of-requires
length_of-requires g c =
    let fits : FitsSigned w64 c.type_at-mtype.result = record { sfits = c.type_at-mtype.type_inv } in
    let p = placed _ _ _ _ _ _ c.args.place c.type_at-mtype.result c.self.invariant.0 c.type_at-mtype.ensures in
    simp (to_z-of_z, fits) (rw p.queued refl)

pub returns : goal.returns
returns g c =
    let fits : FitsSigned w64 c.type_at-mtype.result = record { sfits = c.type_at-mtype.type_inv } in
    let p = placed _ _ _ _ _ _ c.args.place c.type_at-mtype.result c.self.invariant.0 c.type_at-mtype.ensures in
    let long = simp (to_z-of_z, fits) at c.length_of.ensures in
    let known = rw p.queued at long in
    rw (← c.self.view_is, p.at) known
