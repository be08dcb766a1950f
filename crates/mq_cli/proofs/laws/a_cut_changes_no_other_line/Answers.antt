use Rattle.mq_cli.proofs.laws.a_cut_changes_no_other_line.Goals as goal
use Rattle.mq_cli.proofs.AlikeRuns.{changes_no_other}

pub returns : goal.returns
returns c = changes_no_other
