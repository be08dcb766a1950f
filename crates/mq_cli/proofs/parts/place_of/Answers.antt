use Rattle.mq_cli.proofs.parts.place_of.Goals as goal
use Rattle.mq_cli.proofs.PartsLemmas.{first_at}

pub returns-clause-value : goal.returns-clause-value
returns-clause-value c = first_at _ _ _ c.memchr.ensures
