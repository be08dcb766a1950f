use Rattle.mq.proofs.LawLemmas.{refused_from_then_on}
use Rattle.mq.proofs.laws.a_removed_id_is_refused_from_then_on.Goals as goal

pub returns : goal.returns
returns c = refused_from_then_on
