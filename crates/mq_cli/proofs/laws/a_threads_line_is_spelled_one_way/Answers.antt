use Rattle.mq_cli.proofs.laws.a_threads_line_is_spelled_one_way.Goals as goal
use Rattle.mq_cli.proofs.ThreadsLemmas.{threads_spelled_one_way}

pub returns : goal.returns
returns c = threads_spelled_one_way
