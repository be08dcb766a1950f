-- What a run of a threads script writes, and its faults.
use Rattle.std.specs.Prelude.{◌≡◌, ◌⊎◌, ◌^◌, ℕ, List, ◌∷◌, ◌++◌, length, All, Option, Result, Ok}
use Rattle.std.specs.Prelude.{Err}
use Rattle.std.specs.List.{AllZip}
use Rattle.std.specs.Global.{Vec}
use Rattle.std.specs.Io.KnownBytes.{Appends, Keeps}
use Rattle.mq_calls.specs.Closed.{IsClosed}
use Rattle.mq_calls.specs.declared.close.ClosedSlot.{ClosedSlot}
use Rattle.mq_calls.specs.declared.config.Config.{Config}
use Rattle.mq_system.specs.Seat.{SeatState, fresh_seat}
use Rattle.mq_system.specs.Closed.{IsEnd}
use Rattle.mq_cli.specs.declared.fault.RunFault.{RunFault}
use Rattle.mq_cli.specs.declared.fault.RunFault.TheVariants.{Write, Memory, Thread}
use Rattle.mq_cli.specs.declared.threads.outcome.Outcome.{Outcome}
use Rattle.mq_cli.specs.declared.threads.step.Step.{Step}
use Rattle.mq_cli.specs.Closing.{closing}
use Rattle.mq_cli.specs.MainPart.{AreReplies, WroteAll, WroteSome, lines_replied}
use Rattle.mq_cli.specs.Plans.{IsCarriedOut}
use Rattle.mq_cli.specs.Serial.{AppendsPrefix, Writes}
use Rattle.mq_cli.specs.ThreadsScript.{Wanted, wanted_of}
use Rattle.mq_cli.specs.Transcript.{Reply}

-- each section has been run as far as its outcome says
abbrev pub AreDone : List (List Step) → List Outcome → Type 0
AreDone sections outcomes = AllZip IsCarriedOut sections outcomes

-- the slots of a system of this size that was closed: in them are the changes of the main part's
-- seat, as it ended, and of some others
pub record AreClosed (config : Config) (main : SeatState) (slots : List ClosedSlot) : Type 0 where
  pub count : length slots ≡ config.slots
  pub closed : All (IsClosed config.last_seq) slots
  pub others : List SeatState
  pub ends : IsEnd config.last_seq (main ∷ others) slots

-- what is printed of workers that ran these sections, and of slots that were closed after them
pub record IsTold (config : Config) (sections : List (List Step)) (main : SeatState)
    (text : List ℕ) : Type 0 where
  pub outcomes : List Outcome
  pub slots : List ClosedSlot
  pub free : ℕ
  pub done : AreDone sections outcomes
  pub closed : AreClosed config main slots
  pub text_is : text ≡ closing outcomes slots (2 ^ config.height) free

-- what the seat of the main part knows before its first call
abbrev pub main_seat : Config → SeatState
main_seat config = fresh_seat config.slots 1

-- what a whole run writes: the replies of the main part, and then what is printed at the end
pub record IsWholeRun (config : Config) (wanted : Wanted) (text : List ℕ) : Type 0 where
  pub replies : List Reply
  pub main : SeatState
  pub told : List ℕ
  pub replied : AreReplies config.slots config.last_seq wanted.calls replies (main_seat config) main
  pub ending : IsTold config wanted.sections main told
  pub text_is : text ≡ lines_replied replies ++ told

abbrev pub WroteWhole : Config → Wanted → Option (List ℕ) → Option (List ℕ) → Type 0
WroteWhole config wanted old new =
    (text : List ℕ) × IsWholeRun config wanted text × Appends old new text

-- the main part alone
abbrev pub WroteMain : Config → Wanted → Option (List ℕ) → Option (List ℕ) → Type 0
WroteMain config wanted old new = (main : SeatState)
    × WroteAll config.slots config.last_seq wanted.calls (main_seat config) main old new

-- a prefix of what a run writes, which may have ended in its main part
abbrev pub WrotePart : Config → Wanted → Option (List ℕ) → Option (List ℕ) → Type 0
WrotePart config wanted old new =
    WroteSome config.slots config.last_seq wanted.calls (main_seat config) old new
    ⊎ ((text : List ℕ) × IsWholeRun config wanted text × AppendsPrefix old new text)

-- the script is well formed, and this is so of what it asks for
abbrev pub TellsWanted : (Wanted → Type 0) → List ℕ → Type 0
TellsWanted so script = (wanted : Wanted) × (wanted_of script ≡ Ok wanted) × so wanted

-- what the main part wrote at its seat, and the workers answered
abbrev pub RanParts : ℕ → ℕ → Wanted → SeatState → SeatState → Option (List ℕ) → Option (List ℕ)
    → Result (Vec Outcome) RunFault → Type 0
RanParts slots last_seq wanted old new had has (Ok outcomes) =
    WroteAll slots last_seq wanted.calls old new had has × AreDone wanted.sections outcomes.items
RanParts slots last_seq wanted old new had has (Err Thread) =
    WroteAll slots last_seq wanted.calls old new had has
RanParts slots last_seq wanted old new had has (Err Write) =
    WroteSome slots last_seq wanted.calls old had has
RanParts slots last_seq wanted old new had has (Err Memory) =
    WroteSome slots last_seq wanted.calls old had has
RanParts slots last_seq wanted old new had has (Err _) = ⊥

-- the faults of workers that were not run
abbrev pub IsMakingFault : RunFault → Type 0
IsMakingFault Memory = Unit {0}
IsMakingFault Thread = Unit {0}
IsMakingFault _ = ⊥

-- each plan has been run as far as its outcome says, or none was run
abbrev pub RanWorkers : List (Vec Step) → Result (Vec Outcome) RunFault → Type 0
RanWorkers plans (Ok outcomes) =
    AllZip (λ (plan : Vec Step) outcome. IsCarriedOut plan.items outcome) plans outcomes.items
RanWorkers plans (Err fault) = IsMakingFault fault

-- what is printed of workers that have ended; where they were not run, their fault stays
abbrev pub TellsEnd : Option (List ℕ) → Option (List ℕ) → List ClosedSlot → ℕ → ℕ
    → Result (Vec Outcome) RunFault → Result (Unit {0}) RunFault → Type 0
TellsEnd old new slots pages free (Ok outcomes) result =
    Writes old new (closing outcomes.items slots pages free) result
TellsEnd old new slots pages free (Err fault) result = (result ≡ Err fault) × Keeps old new

-- a flush writes nothing, and may fail
abbrev pub Flushes : Option (List ℕ) → Option (List ℕ) → Result (Unit {0}) RunFault
    → Result (Unit {0}) RunFault → Type 0
Flushes old new told result = Keeps old new × ((result ≡ told) ⊎ (result ≡ Err Write))
