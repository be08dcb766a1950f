use Rattle.mq_cli.proofs.laws.a_spelled_threads_line_is_read_back.Goals as goal
use Rattle.mq_cli.proofs.ThreadsLemmas.{threads_read_back}

pub returns : goal.returns
returns c = threads_read_back
