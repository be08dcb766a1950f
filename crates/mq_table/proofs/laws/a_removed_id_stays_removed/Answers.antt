use Rattle.mq_table.proofs.Removed.{stays}
use Rattle.mq_table.proofs.laws.a_removed_id_stays_removed.Goals as goal

pub returns : goal.returns
returns c = stays
