use Rattle.std.proofs.Common.{arith}
use Rattle.std.proofs.lemmas.List.Sorted.{length_permutation}
use Rattle.mq_system.proofs.system.System.take_home.Goals as goal

pub loop-message-smaller : goal.loop-message-smaller
loop-message-smaller g c =
    let fewer = length_permutation _ _ (c.in-Some.ensures.some).1 in omega arith
