use Rattle.std.proofs.lemmas.Int.{to_z-of_z}
use Rattle.mq_select.proofs.Plain.{has_queue, copied_mut}
use Rattle.mq_select.proofs.queues.take_from.Goals as goal

pub unwrap-queue-requires : goal.unwrap-queue-requires
unwrap-queue-requires g c =
    let at = simp (to_z-of_z, c.ranges.mtype) at c.get_mut.ensures.value in
    copied_mut _ _ at (has_queue c.args.queues.now.entries c.args.mtype c.args.place c.requires)

pub take-requires : goal.take-requires
take-requires g c =
    let at = simp (to_z-of_z, c.ranges.mtype) at (rw c.unwrap-queue.ensures at c.get_mut.ensures.value) in
    rw (← at) at c.requires

pub returns-clause-taken : goal.returns-clause-taken
returns-clause-taken g c =
    let at = simp (to_z-of_z, c.ranges.mtype) at (rw c.unwrap-queue.ensures at c.get_mut.ensures.value) in
    rw (← at) c.take.ensures.taken
