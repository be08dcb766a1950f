-- What a run of a threads script that is recorded reads and returns.
use Rattle.std.specs.Prelude.{◌≡◌, ℕ, List, [], ◌∷◌, Option, None, Some, IfSome, Result, Ok, Err}
use Rattle.std.specs.Global.{Vec}
use Rattle.mq_calls.specs.declared.config.Config.{Config}
use Rattle.mq_system.specs.Seat.{SeatState}
use Rattle.mq_cli.specs.declared.fault.Cause.{Cause}
use Rattle.mq_cli.specs.declared.fault.RunFault.{RunFault}
use Rattle.mq_cli.specs.declared.fault.RunFault.TheVariants.{Script, Size, Read, Memory, Thread}
use Rattle.mq_cli.specs.declared.recorded.Recorded.{Recorded}
use Rattle.mq_trace.specs.declared.refusal.Refusal.{Refusal}
use Rattle.mq_cli.specs.declared.threads.script.MainCall.{MainCall}
use Rattle.mq_cli.specs.Input.{ReadsBy}
use Rattle.mq_cli.specs.MainPart.{AreReplies, asked_in_main, moment_of}
use Rattle.mq_cli.specs.Recording.{noted}
use Rattle.mq_cli.specs.Threads.{AreClosed, main_seat}
use Rattle.mq_cli.specs.ThreadsScript.{Wanted, wanted_of}
use Rattle.mq_cli.specs.Transcript.{Reply, refusal_in}

-- the refusals so far, and those of the main part's calls, by their replies
abbrev pub noted_in_main : List Refusal → List MainCall → List Reply → List Refusal
noted_in_main refusals (call ∷ calls) (reply ∷ replies) =
    noted_in_main (noted refusals (moment_of call) 1 (asked_in_main call) (refusal_in reply)) calls
    replies
noted_in_main refusals _ _ = refusals

-- the main part's calls have these refusals, at one seat, from what it knew first to what it knows
-- last
pub record RecordedMain (slots last_seq : ℕ) (calls : List MainCall) (refusals : List Refusal)
    (old new : SeatState) : Type 0 where
  pub replies : List Reply
  pub are : AreReplies slots last_seq calls replies old new
  pub refused : refusals ≡ noted_in_main [] calls replies

-- what the main part and the sections leave
abbrev pub RecordsParts : ℕ → ℕ → Wanted → SeatState → SeatState → Result (Vec Refusal) RunFault
    → Type 0
RecordsParts slots last_seq wanted old new (Ok refusals) =
    RecordedMain slots last_seq wanted.calls refusals.items old new
RecordsParts slots last_seq wanted old new (Err Memory) = Unit {0}
RecordsParts slots last_seq wanted old new (Err Thread) = Unit {0}
RecordsParts slots last_seq wanted old new (Err _) = ⊥

-- what is kept of a run: the refusals of its main part, and slots that were closed behind all
pub record IsKeptOf (config : Config) (wanted : Wanted) (kept : Recorded) : Type 0 where
  pub main : SeatState
  pub refusals : RecordedMain config.slots config.last_seq wanted.calls kept.refusals.items
      (main_seat config) main
  pub closed : AreClosed config main kept.slots.items

abbrev pub RecordsWanted : Config → Wanted → Result Recorded RunFault → Type 0
RecordsWanted config wanted (Ok kept) = IsKeptOf config wanted kept
RecordsWanted config wanted (Err Memory) = Unit {0}
RecordsWanted config wanted (Err Thread) = Unit {0}
RecordsWanted config wanted (Err _) = ⊥

-- the same of the bytes of a script; the fault that names a line names the first that is not well
-- formed
abbrev pub KeepsThreads : Config → Result Recorded RunFault → List ℕ → Type 0
KeepsThreads config (Ok kept) script =
    (wanted : Wanted) × (wanted_of script ≡ Ok wanted) × IsKeptOf config wanted kept
KeepsThreads config (Err (Script line cause)) script = wanted_of script ≡ Err (line, cause)
KeepsThreads config (Err Size) script = Unit {0}
KeepsThreads config (Err Read) script = Unit {0}
KeepsThreads config (Err Memory) script = Unit {0}
KeepsThreads config (Err Thread) script = Unit {0}
KeepsThreads config (Err _) script = ⊥

-- what a run in several threads that is recorded read, and what it returns of the script's bytes,
-- where they are known
pub record RecordedThreads (config : Config) (script left : Option (List ℕ))
    (result : Result Recorded RunFault) : Type 0 where
  pub reads : ReadsBy script left result
  pub keeps : IfSome script (KeepsThreads config result)
