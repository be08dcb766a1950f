-- What a run that is recorded reads and returns.
use Rattle.std.specs.Prelude.{◌≡◌, ℕ, List, map, Option, None, Some, IfSome, Result, Ok, Err}
use Rattle.std.specs.Global.{Vec}
use Rattle.mq_calls.specs.Closed.{ending_of, ends}
use Rattle.mq_calls.specs.declared.close.ClosedSlot.{ClosedSlot}
use Rattle.mq_calls.specs.declared.config.Config.{Config}
use Rattle.mq_cli.specs.declared.fault.Cause.{Cause}
use Rattle.mq_cli.specs.declared.fault.RunFault.{RunFault}
use Rattle.mq_cli.specs.declared.fault.RunFault.TheVariants.{Script, Size, Read, Memory}
use Rattle.mq_cli.specs.declared.recorded.Recorded.{Recorded}
use Rattle.mq_trace.specs.declared.refusal.Refusal.{Refusal}
use Rattle.mq_cli.specs.Input.{ReadsBy}
use Rattle.mq_cli.specs.Recording.{Recording, recording, recording_of}
use Rattle.mq_cli.specs.Session.{SessionState}
use Rattle.mq_cli.specs.Transcript.{fault_of}

-- what line n recorded and returned
abbrev pub RecordsLine : ℕ → Result Recording Cause → Recording → Result (Unit {0}) RunFault
    → Type 0
RecordsLine n (Ok r) now (Ok _) = now ≡ r
RecordsLine n (Ok r) now (Err Memory) = Unit {0}
RecordsLine n (Err cause) now (Err (Script line named)) = (line ≡ n) × (named ≡ cause)
RecordsLine n _ now _ = ⊥

-- the lines leave this state, and these calls of them were refused
abbrev pub RecordsLines : Result Recording (ℕ × Cause) → SessionState
    → Result (Vec Refusal) RunFault → Type 0
RecordsLines whole s (Ok refusals) = whole ≡ Ok (recording s refusals.items)
RecordsLines whole s (Err (Script line cause)) = whole ≡ Err (line, cause)
RecordsLines whole s (Err Memory) = Unit {0}
RecordsLines whole s (Err _) = ⊥

-- what is left of a run that ended so, and of the slots of its system
abbrev pub Leaves : Result (Vec Refusal) RunFault → Vec ClosedSlot → Result Recorded RunFault
    → Type 0
Leaves (Ok refusals) slots result = result ≡ Ok (record { slots = slots; refusals = refusals })
Leaves (Err fault) slots result = result ≡ Err fault

-- what is kept of a run is what its lines leave: the refusals, and how each slot ended
pub record IsKept (whole : Result Recording (ℕ × Cause)) (kept : Recorded) : Type 0 where
  pub last : Recording
  pub whole_is : whole ≡ Ok last
  pub refusals : kept.refusals.items ≡ last.refusals
  pub slots : map ending_of kept.slots.items ≡ map ends last.state.queues.slots

abbrev pub Records : Result Recording (ℕ × Cause) → Result Recorded RunFault → Type 0
Records whole (Ok kept) = IsKept whole kept
Records whole (Err (Script line cause)) = whole ≡ Err (line, cause)
Records whole (Err Memory) = Unit {0}
Records whole (Err _) = ⊥

-- a script that a run was kept of has no line that is not well formed; the fault that names one
-- names the first, as in a run that is answered
abbrev pub KeepsScript : Config → Result Recorded RunFault → List ℕ → Type 0
KeepsScript config (Ok kept) script =
    IsKept (recording_of config script) kept × (fault_of config script ≡ None)
KeepsScript config (Err (Script line cause)) script = fault_of config script ≡ Some (line, cause)
KeepsScript config (Err Size) script = Unit {0}
KeepsScript config (Err Read) script = Unit {0}
KeepsScript config (Err Memory) script = Unit {0}
KeepsScript config (Err _) script = ⊥

-- what a run in one thread that is recorded read, and what it returns of the script's bytes, where
-- they are known
pub record RecordedSerial (config : Config) (script left : Option (List ℕ))
    (result : Result Recorded RunFault) : Type 0 where
  pub reads : ReadsBy script left result
  pub keeps : IfSome script (KeepsScript config result)
