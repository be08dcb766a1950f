use Rattle.std.proofs.Common.{◌∙◌, sym}
use Rattle.std.proofs.lemmas.Int.{to_z-of_z}
use Rattle.mq_select.proofs.Entries.{taken_out}
use Rattle.mq_select.proofs.first_places.FirstPlaces.take_out.Goals as goal

pub returns-then-i-len-clause-at : goal.returns-then-i-len-clause-at
returns-then-i-len-clause-at c t =
    let index = simp (to_z-of_z, c.ranges.mtype) at c.in-Some.ensures.index in
    let gone = c.swap_remove_index-entry in
    rw (← c.self.view_is)
    (c.restore.ensures.at t ∙ taken_out c.self.inside.heap gone.new.self c.args.mtype c.in-Some.i gone.result (sym index) gone.ensures.entry gone.ensures.updates t)

pub returns-else-i-len-clause-at : goal.returns-else-i-len-clause-at
returns-else-i-len-clause-at c t =
    let index = simp (to_z-of_z, c.ranges.mtype) at c.in-Some.ensures.index in
    let gone = c.swap_remove_index-entry in
    rw (← c.self.view_is)
    (taken_out c.self.inside.heap gone.new.self c.args.mtype c.in-Some.i gone.result (sym index) gone.ensures.entry gone.ensures.updates t)
