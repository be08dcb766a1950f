use Rattle.mq.proofs.LawLemmas.{beginning}
use Rattle.mq.proofs.laws.what_a_seat_knows_is_a_slots_list.Goals as goal

pub returns : goal.returns
returns c = beginning
