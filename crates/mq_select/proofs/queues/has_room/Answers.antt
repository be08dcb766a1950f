use Rattle.std.proofs.Common.{rules}
use Rattle.std.proofs.lemmas.Int.{to_z-of_z}
use Rattle.mq_select.proofs.queues.has_room.Goals as goal

pub returns-in-Some : goal.returns-in-Some
returns-in-Some g c =
    let at = simp (to_z-of_z, c.ranges.mtype) at c.in-Some.ensures.value in
    rw (← at, ← c.len.ensures) (search rules)

pub returns-in-None : goal.returns-in-None
returns-in-None g c =
    let at = simp (to_z-of_z, c.ranges.mtype) at c.in-None.ensures.value in
    rw (← at) (search rules)
