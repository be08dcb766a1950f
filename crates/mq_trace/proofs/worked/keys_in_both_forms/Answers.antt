use Rattle.std.proofs.Common.{refl}
use Rattle.std.specs.Fmt.{digits}
use Rattle.mq_trace.specs.Ipcs.{eight_digits}
use Rattle.mq_trace.proofs.worked.keys_in_both_forms.Goals as goal

pub returns : goal.returns
unfolding digits eight_digits
returns c = record { zero = refl; each = refl; minus = refl; least = refl; decimal = refl }
