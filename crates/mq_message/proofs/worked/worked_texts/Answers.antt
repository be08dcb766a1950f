use Rattle.std.proofs.Common.{refl}
use Rattle.std.specs.Fmt.{digits}
use Rattle.mq_message.proofs.worked.worked_texts.Goals as goal

pub returns : goal.returns
unfolding digits
returns c = refl
