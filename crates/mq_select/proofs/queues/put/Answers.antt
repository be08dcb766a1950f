use Rattle.std.proofs.lemmas.Int.{to_z-of_z}
use Rattle.mq_select.proofs.Plain.{copied_mut}
use Rattle.mq_select.proofs.queues.put.Goals as goal

pub unwrap-queue-requires : goal.unwrap-queue-requires
unwrap-queue-requires g c =
    let at = simp (to_z-of_z, c.ranges.mtype) at c.get_mut.ensures.value in
    copied_mut _ _ at c.requires.there

pub put-requires-clause-few : goal.put-requires-clause-few
put-requires-clause-few g c =
    let at = simp (to_z-of_z, c.ranges.mtype) at (rw c.unwrap-queue.ensures at c.get_mut.ensures.value) in
    rw (← at) at c.requires.few

pub put-requires-clause-above : goal.put-requires-clause-above
put-requires-clause-above g c =
    let at = simp (to_z-of_z, c.ranges.mtype) at (rw c.unwrap-queue.ensures at c.get_mut.ensures.value) in
    rw (← at) at c.requires.above
