use Rattle.std.proofs.lemmas.Int.{to_z-of_z}
use Rattle.mq_select.proofs.queues.take.Goals as goal

pub returns-clause-taken : goal.returns-clause-taken
returns-clause-taken g c = simp (to_z-of_z, c.ranges.mtype) at c.take_from-message.ensures.taken
