use Rattle.std.proofs.Common.{refl}
use Rattle.std.specs.Fmt.{digits}
use Rattle.mq_cli.specs.Numbers.{integer_of, number_of}
use Rattle.mq_cli.specs.ThreadsScript.{wanted_from}
use Rattle.mq_cli.proofs.threads.worked.causes_in_a_section.Goals as goal

pub returns : goal.returns
unfolding digits integer_of number_of wanted_from
returns c = record { words = refl; number = refl; count = refl; all = refl }
