use Rattle.mq_message.proofs.Lowest.{finds_lowest}
use Rattle.mq_message.proofs.laws.lowest_type_is_least.Goals as goal

pub returns : goal.returns
returns c = finds_lowest
