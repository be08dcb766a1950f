use Rattle.std.proofs.Common.{refl}
use Rattle.mq_cli.specs.Numbers.{integer_of, number_of}
use Rattle.mq_cli.specs.ThreadsScript.{wanted_from}
use Rattle.mq_cli.proofs.threads.worked.lines_of_another_part.Goals as goal

pub returns : goal.returns
unfolding integer_of number_of wanted_from
returns c = record { put = refl; get = refl; worker = refl; most = refl }
