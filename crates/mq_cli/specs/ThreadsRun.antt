-- What a run in several threads needs, and what it reads, writes and returns.
use Rattle.std.specs.Prelude.{◌≡◌, ◌⊎◌, ◌+◌, ◌≤◌, ℕ, true, List, vec_len, Option, IfSome, Result}
use Rattle.std.specs.Prelude.{Ok, Err}
use Rattle.std.specs.Global.{Vec}
use Rattle.std.specs.Io.KnownBytes.{Keeps}
use Rattle.mq_arena.specs.declared.limits.TheConstants.{LEDGER_PARTS}
use Rattle.mq_calls.specs.Limits.{keeps_limits}
use Rattle.mq_calls.specs.declared.config.Config.{Config}
use Rattle.mq_cli.specs.declared.fault.RunFault.{RunFault}
use Rattle.mq_cli.specs.declared.fault.RunFault.TheVariants.{Script, Size, Read, Write, Memory}
use Rattle.mq_cli.specs.declared.fault.RunFault.TheVariants.{Thread}
use Rattle.mq_cli.specs.declared.limits.TheConstants.{MAX_WORKERS}
use Rattle.mq_cli.specs.declared.threads.step.Step.{Step}
use Rattle.mq_cli.specs.Input.{ReadsBy}
use Rattle.mq_cli.specs.Plans.{AreCountable}
use Rattle.mq_cli.specs.Threads.{TellsWanted, WroteMain, WrotePart, WroteWhole}
use Rattle.mq_cli.specs.ThreadsScript.{Wanted, wanted_of}

-- sections can be run at some seats: there is one for each
pub record HaveSeats (count seats : ℕ) (sections : List (Vec Step)) : Type 0 where
  pub seated : count ≤ seats
  pub countable : AreCountable sections

-- a script that was read can be run on a system of this size with a ledger of so many parts: a seat
-- is there for each section, and one for the main part
pub record CanRunScript (config : Config) (parts seats : ℕ) (sections : Vec (Vec Step))
    : Type 0 where
  pub enough : LEDGER_PARTS ≤ parts
  pub limits : keeps_limits config ≡ true
  pub seated : seats ≡ vec_len sections + 1
  pub few : vec_len sections ≤ MAX_WORKERS
  pub countable : AreCountable sections.items

-- what a run of a script that was read wrote and returned
abbrev pub RanWanted : Config → Wanted → Option (List ℕ) → Option (List ℕ)
    → Result (Unit {0}) RunFault → Type 0
RanWanted config wanted old new (Ok _) = WroteWhole config wanted old new
RanWanted config wanted old new (Err Thread) = WroteMain config wanted old new
RanWanted config wanted old new (Err Write) = WrotePart config wanted old new
RanWanted config wanted old new (Err Memory) = WrotePart config wanted old new
RanWanted config wanted old new (Err _) = ⊥

-- the same of the bytes of a script, where they are known; where it was not read or is not well
-- formed nothing was written
abbrev pub WritesThreads : Config → Option (List ℕ) → Option (List ℕ) → Option (List ℕ)
    → Result (Unit {0}) RunFault → Type 0
WritesThreads config script old new (Err Size) = Keeps old new
WritesThreads config script old new (Err Read) = Keeps old new
WritesThreads config script old new (Err (Script line cause)) =
    IfSome script (λ s. wanted_of s ≡ Err (line, cause)) × Keeps old new
WritesThreads config script old new (Err Memory) = Keeps old new
    ⊎ IfSome script (TellsWanted (λ wanted. WrotePart config wanted old new))
WritesThreads config script old new result =
    IfSome script (TellsWanted (λ wanted. RanWanted config wanted old new result))

-- what a run in several threads read, and what it wrote
pub record RanThreads (config : Config) (script left old new : Option (List ℕ))
    (result : Result (Unit {0}) RunFault) : Type 0 where
  pub reads : ReadsBy script left result
  pub writes : WritesThreads config script old new result
