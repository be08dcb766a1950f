use Rattle.std.proofs.lemmas.Int.{to_z-of_z}
use Rattle.mq.proofs.local_caller.LocalCaller.queue.Goals as goal

pub returns-in-Ok-clause-answer : goal.returns-in-Ok-clause-answer
returns-in-Ok-clause-answer g c =
    let got = simp (to_z-of_z, c.ranges.key) at c.in-Ok.ensures.answer in (c.in-Ok.got.made, got)
