use Rattle.std.proofs.Common.{◌∙◌, ◌++◌, ap, arith, length, length-append}
use Rattle.std.proofs.lemmas.Int.{to_z-of_z}
use Rattle.std.proofs.lemmas.List.{append-nil}
use Rattle.mq_select.proofs.crossing.moved.Goals as goal

pub go_over-requires : goal.go_over-requires
go_over-requires g c = record { rising = rw c.new-index.ensures.empty c.into_parts-messages.ensures.rising }

pub destroy_empty-requires : goal.destroy_empty-requires
destroy_empty-requires g c = c.go_over.new.messages.ok.0 ∙ ap length c.in-Ok.ensures.ok.0

pub returns-in-Ok : goal.returns-in-Ok
returns-in-Ok g c =
    let whole = rw (c.in-Ok.ensures.ok.0, append-nil, c.new-index.ensures.empty) at c.go_over.ensures.kept in
    record { messages = whole ∙ c.into_parts-messages.ensures.messages; prepared = simp (to_z-of_z, c.ranges.mtype) at c.in-Ok.ensures.ok.1 }

pub cross_back-requires : goal.cross_back-requires
cross_back-requires g c =
    let whole = ap length (c.go_over.ensures.kept ∙ ap (λ ms. ms ++ c.into_parts-messages.result.0.items) c.new-index.ensures.empty) in
    let both = length-append c.go_over.new.index.messages c.go_over.new.messages.items in
    omega (arith, whole, both)

pub from_parts-requires : goal.from_parts-requires
from_parts-requires g c =
    let whole = c.cross_back.ensures.moved ∙ c.go_over.ensures.kept ∙ ap (λ ms. ms ++ c.into_parts-messages.result.0.items) c.new-index.ensures.empty in
    let same = ap length whole in
    record { rising = rw whole c.into_parts-messages.ensures.rising; room = λ x e. let room = c.into_parts-messages.ensures.room x e in omega (arith, same, room) }
