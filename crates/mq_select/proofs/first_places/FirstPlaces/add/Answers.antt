use Rattle.std.proofs.Common.{◌≡◌, ◌∙◌, None}
use Rattle.std.specs.Ordering.{int_eq}
use Rattle.std.proofs.lemmas.Int.{to_z-of_z}
use Rattle.indexmap.specs.IndexMap.{get}
use Rattle.indexmap.proofs.CallerLemmas.{insert_entry-new}
use Rattle.mq_select.proofs.Entries.{grown}
use Rattle.mq_select.proofs.first_places.FirstPlaces.add.Goals as goal

pub invariant_of-self : goal.invariant_of-self
invariant_of-self c =
    let entries = simp (to_z-of_z, c.ranges.mtype) at c.in-Ok.ensures.entries in
    let absent : get int_eq c.self.inside.heap c.args.mtype ≡ None = rw (← c.self.view_is) at c.requires.absent in
    let above = rw (← c.self.view_is) at c.requires.above in
    rw (entries ∙ insert_entry-new int_eq c.self.inside.heap c.args.mtype c.args.place absent)
    (grown c.self.inside.heap.entries c.args.mtype c.args.place c.self.invariant c.len-len.ensures.unique above)
