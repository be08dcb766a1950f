use Rattle.mq.proofs.LawLemmas.{written}
use Rattle.mq.proofs.laws.a_change_stays_at_its_entry.Goals as goal

pub returns : goal.returns
returns c = written
