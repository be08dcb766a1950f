-- What a run read.
use Rattle.std.proofs.Common.{ℕ, List, Option, arith}
use Rattle.std.specs.Global.{Vec}
use Rattle.mq_cli.specs.declared.limits.TheConstants.{SCRIPT_LIMIT}
use Rattle.mq_cli.specs.Input.{HasRead, ReadsUpTo}

-- a script that was read whole has no more bytes than one may have
pub reads_few : (old new : Option (List ℕ)) (script : Vec ℕ) → HasRead old new script → ReadsUpTo SCRIPT_LIMIT old new
reads_few old new script read = (script.items, read.whole, omega (arith, script.ok.0, read.fits))
