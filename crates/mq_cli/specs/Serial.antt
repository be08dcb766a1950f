-- What a run writes and returns.
use Rattle.std.specs.Prelude.{◌≡◌, ℕ, List, [], ◌++◌, Option, None, Some, IfSome, Result, Ok, Err}
use Rattle.std.specs.Io.KnownBytes.{Appends, Keeps}
use Rattle.mq_calls.specs.declared.config.Config.{Config}
use Rattle.mq_calls.specs.declared.errno.Errno.{Errno}
use Rattle.mq_cli.specs.declared.fault.Cause.{Cause}
use Rattle.mq_cli.specs.declared.fault.RunFault.{RunFault}
use Rattle.mq_cli.specs.declared.fault.RunFault.TheVariants.{Script, Size, Read, Write, Memory}
use Rattle.mq_cli.specs.declared.fault.RunFault.TheVariants.{Thread}
use Rattle.mq_cli.specs.Input.{ReadsBy}
use Rattle.mq_cli.specs.Session.{SessionState}
use Rattle.mq_cli.specs.Transcript.{Run, output, refusal_in, Reply, run_of}

-- a text begins with this one
abbrev pub IsPrefixOf : List ℕ → List ℕ → Type 0
IsPrefixOf prefix text = (rest : List ℕ) × (text ≡ prefix ++ rest)

-- the writer took a prefix of the text
abbrev pub AppendsPrefix : Option (List ℕ) → Option (List ℕ) → List ℕ → Type 0
AppendsPrefix old new text = (prefix : List ℕ) × IsPrefixOf prefix text × Appends old new prefix

-- the same where a write failed or memory ran out, and else all of it
abbrev pub Writes : Option (List ℕ) → Option (List ℕ) → List ℕ → Result (Unit {0}) RunFault → Type 0
Writes old new text (Ok _) = Appends old new text
Writes old new text (Err Write) = AppendsPrefix old new text
Writes old new text (Err Memory) = AppendsPrefix old new text
Writes old new text (Err _) = ⊥

-- the writer took what the run writes, and the fault is the run's; where a write failed or memory
-- ran out it took only a prefix
abbrev pub Runs : Option (List ℕ) → Option (List ℕ) → Run → Result (Unit {0}) RunFault → Type 0
Runs old new run (Ok _) = (run.fault ≡ None) × Appends old new run.written
Runs old new run (Err (Script line cause)) =
    (run.fault ≡ Some (line, cause)) × Appends old new run.written
Runs old new run (Err Write) = AppendsPrefix old new run.written
Runs old new run (Err Memory) = AppendsPrefix old new run.written
Runs old new run (Err _) = ⊥

-- the same of the bytes of a script, where they are known; where it was not read nothing was
-- written
abbrev pub WritesSerial : Config → Option (List ℕ) → Option (List ℕ) → Option (List ℕ)
    → Result (Unit {0}) RunFault → Type 0
WritesSerial config script old new (Err Size) = Keeps old new
WritesSerial config script old new (Err Read) = Keeps old new
WritesSerial config script old new (Err Thread) = ⊥
WritesSerial config script old new result =
    IfSome script (λ s. Runs old new (run_of config s) result)

-- what a run in one thread read, and what it wrote
pub record RanSerial (config : Config) (script left old new : Option (List ℕ))
    (result : Result (Unit {0}) RunFault) : Type 0 where
  pub reads : ReadsBy script left result
  pub writes : WritesSerial config script old new result

-- what the line with this number wrote and returned, which leaves the state s
abbrev pub RunsLine : Option (List ℕ) → Option (List ℕ) → ℕ → Result (List ℕ × SessionState) Cause
    → SessionState → Result (Unit {0}) RunFault → Type 0
RunsLine old new number (Ok turn) s (Ok _) = (s ≡ turn.1) × Appends old new turn.0
RunsLine old new number (Ok turn) s (Err Write) = AppendsPrefix old new turn.0
RunsLine old new number (Ok turn) s (Err Memory) = AppendsPrefix old new turn.0
RunsLine old new number (Err cause) s (Err (Script line named)) =
    (line ≡ number) × (named ≡ cause) × Appends old new []
RunsLine old new number _ s _ = ⊥

-- the reply of a call follows what the buffer held, the call leaves this state, and what refused it
-- is returned
pub record Answered {S : Type 0} (turn : Reply × S) (old new : List ℕ) (s : S)
    (told : Option Errno) : Type 0 where
  pub line : new ≡ old ++ output turn.0
  pub state : s ≡ turn.1
  pub refusal : told ≡ refusal_in turn.0
