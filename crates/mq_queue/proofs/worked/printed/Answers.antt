use Rattle.std.proofs.Common.{refl}
use Rattle.std.specs.Fmt.{digits}
use Rattle.mq_queue.proofs.worked.printed.Goals as goal

pub returns-clause-made : goal.returns-clause-made
unfolding digits
returns-clause-made c = refl

pub returns-clause-sent : goal.returns-clause-sent
unfolding digits
returns-clause-sent c = refl

pub returns-clause-received : goal.returns-clause-received
unfolding digits
returns-clause-received c = refl

pub returns-clause-figures : goal.returns-clause-figures
unfolding digits
returns-clause-figures c = refl
