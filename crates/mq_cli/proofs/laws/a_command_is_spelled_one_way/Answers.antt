use Rattle.mq_cli.proofs.laws.a_command_is_spelled_one_way.Goals as goal
use Rattle.mq_cli.proofs.SpellingLemmas.{spelled_one_way}

pub returns : goal.returns
returns c = spelled_one_way
