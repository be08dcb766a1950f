use Rattle.mq_cli.proofs.laws.a_spelled_command_is_read_back.Goals as goal
use Rattle.mq_cli.proofs.SpellingLemmas.{reads_back}

pub returns : goal.returns
returns c = reads_back
