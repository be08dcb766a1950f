use Rattle.std.proofs.Common.{◌∙◌, sym}
use Rattle.std.proofs.lemmas.Int.{to_z-of_z}
use Rattle.mq_select.proofs.Entries.{written, written_at, index_is, is_there, later_is}
use Rattle.mq_select.proofs.first_places.FirstPlaces.move_on.Goals as goal

pub unwrap-i-requires : goal.unwrap-i-requires
unwrap-i-requires c =
    let found = simp (to_z-of_z, c.ranges.mtype) at c.get_index_of.ensures.found in
    let later = rw (← c.self.view_is) at c.requires.later in
    found ∙ is_there _ _ later

pub sink-requires : goal.sink-requires
sink-requires c =
    let index = simp (to_z-of_z, c.ranges.mtype) at c.get_index_of.ensures.index in
    let later = rw (← c.self.view_is) at c.requires.later in
    let is = index_is c.self.inside.heap.entries c.args.mtype c.unwrap-i.result (sym index ∙ c.unwrap-i.ensures) in
    written c.self.inside.heap.entries c.unwrap-i.result c.args.place c.self.invariant is.0
    (later_is c.self.inside.heap.entries c.args.mtype c.unwrap-i.result c.args.place c.get_index_of.ensures.unique is.0 is.1 later)

pub returns-clause-at : goal.returns-clause-at
returns-clause-at c t =
    let index = simp (to_z-of_z, c.ranges.mtype) at c.get_index_of.ensures.index in
    let is = written_at c.self.inside.heap c.args.mtype c.unwrap-i.result c.args.place c.get_index_of.ensures.unique (sym index ∙ c.unwrap-i.ensures) t in
    rw (← c.self.view_is) (cc (c.sink.ensures.at t, is))
