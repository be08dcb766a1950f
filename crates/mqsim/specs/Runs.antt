-- What a run of a script of either kind read, and what its fault says of the script.
use Rattle.std.specs.Prelude.{◌≡◌, ℕ, List, Option, None, Some, IfSome, Result, Ok, Err}
use Rattle.mq_cli.specs.Input.{ReadsBy}
use Rattle.mq_cli.specs.ThreadsScript.{wanted_of}
use Rattle.mq_cli.specs.Transcript.{fault_of}
use Rattle.mq_cli.specs.declared.fault.Cause.{Cause}
use Rattle.mq_cli.specs.declared.fault.RunFault.{RunFault}
use Rattle.mq_cli.specs.declared.fault.RunFault.TheVariants.{Script}
use Rattle.mq_calls.specs.declared.config.Config.{Config}
use Rattle.mqsim.specs.declared.command_line.Kind.{Kind}
use Rattle.mqsim.specs.declared.command_line.Kind.TheVariants.{Serial, Threads}

-- the fault that names a line names the first one of the script that is not well formed
abbrev pub IsFaultOf : Kind → Config → List ℕ → ℕ → Cause → Type 0
IsFaultOf Serial config script line cause = fault_of config script ≡ Some (line, cause)
IsFaultOf Threads config script line cause = wanted_of script ≡ Err (line, cause)

-- a serial script that was run to its end has no such line
abbrev pub IsFaultless : Kind → Config → List ℕ → Type 0
IsFaultless Serial config script = fault_of config script ≡ None
IsFaultless Threads config script = Unit {0}

-- what the end of a run says of the script's bytes, where they are known
abbrev pub Tells : {T : Type 0} → Kind → Config → Option (List ℕ) → Result T RunFault → Type 0
Tells kind config script (Ok _) = IfSome script (IsFaultless kind config)
Tells kind config script (Err (Script line cause)) =
    IfSome script (λ s. IsFaultOf kind config s line cause)
Tells kind config script (Err _) = Unit {0}

-- what a run of this kind did with its reader
pub record RanKind {T : Type 0} (kind : Kind) (config : Config) (script left : Option (List ℕ))
    (result : Result T RunFault) : Type 0 where
  pub reads : ReadsBy script left result
  pub tells : Tells kind config script result
