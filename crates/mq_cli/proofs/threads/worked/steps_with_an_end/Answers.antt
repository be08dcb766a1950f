use Rattle.std.proofs.Common.{refl}
use Rattle.std.specs.Fmt.{digits}
use Rattle.mq_cli.specs.Numbers.{integer_of, number_of}
use Rattle.mq_cli.specs.ThreadsScript.{wanted_from}
use Rattle.mq_cli.proofs.threads.worked.steps_with_an_end.Goals as goal

pub returns : goal.returns
unfolding digits integer_of number_of wanted_from
returns c = record { both = refl; place = refl; missing = refl; most = refl; removal = refl }
