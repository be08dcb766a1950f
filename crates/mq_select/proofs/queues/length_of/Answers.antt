use Rattle.std.proofs.lemmas.Int.{to_z-of_z}
use Rattle.mq_select.proofs.Plain.{has_queue, copied}
use Rattle.mq_select.proofs.queues.length_of.Goals as goal

pub unwrap-requires : goal.unwrap-requires
unwrap-requires g c =
    let at = simp (to_z-of_z, c.ranges.mtype) at c.get.ensures.value in
    copied _ _ at (has_queue c.args.queues.now.entries c.args.mtype c.args.place c.requires)

pub length_of-requires : goal.length_of-requires
length_of-requires g c =
    let at = simp (to_z-of_z, c.ranges.mtype) at (rw c.unwrap.ensures at c.get.ensures.value) in
    rw (← at) at c.requires

pub returns : goal.returns
returns g c =
    let at = simp (to_z-of_z, c.ranges.mtype) at (rw c.unwrap.ensures at c.get.ensures.value) in
    rw (← at) c.length_of.ensures
