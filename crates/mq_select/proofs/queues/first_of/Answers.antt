use Rattle.std.proofs.lemmas.Int.{to_z-of_z}
use Rattle.mq_select.proofs.queues.first_of.Goals as goal

pub returns-in_err-get : goal.returns-in_err-get
returns-in_err-get g c =
    let at = simp (to_z-of_z, c.ranges.mtype) at c.in_err-get.ensures.value in
    rw (← at) c.from_residual.ensures

pub returns : goal.returns
returns g c =
    let at = simp (to_z-of_z, c.ranges.mtype) at c.in_ok-get.ensures.value in
    rw (← at) c.first.ensures
