-- What a run is given: its size, and the bytes of its script.
use Rattle.std.specs.Prelude.{◌≡◌, ℕ, ◌<◌, ◌≤◌, true, List, length, vec_len, Option, Result, Ok}
use Rattle.std.specs.Prelude.{Err}
use Rattle.std.specs.Global.{Vec}
use Rattle.std.specs.Io.KnownBytes.{Consumes, IsAtEnd}
use Rattle.mq_calls.specs.Limits.{keeps_limits}
use Rattle.mq_calls.specs.declared.config.Config.{Config}
use Rattle.mq_cli.specs.declared.fault.RunFault.{RunFault}
use Rattle.mq_cli.specs.declared.fault.RunFault.TheVariants.{Size, Read, Memory}
use Rattle.mq_cli.specs.declared.limits.TheConstants.{SCRIPT_LIMIT}

-- a run's size is within the limits, and there are 16 seats
pub record IsRunSize (config : Config) : Type 0 where
  pub limits : keeps_limits config ≡ true
  pub seats : config.seats ≡ 16

-- the reader gave more bytes than the limit, or no more
abbrev pub ReadsMoreThan : ℕ → Option (List ℕ) → Option (List ℕ) → Type 0
ReadsMoreThan limit old new = (bytes : List ℕ) × Consumes old new bytes × (limit < length bytes)

abbrev pub ReadsUpTo : ℕ → Option (List ℕ) → Option (List ℕ) → Type 0
ReadsUpTo limit old new = (bytes : List ℕ) × Consumes old new bytes × (length bytes ≤ limit)

-- all that the reader gave is the script, which is no longer than one may be
pub record HasRead (old new : Option (List ℕ)) (script : Vec ℕ) : Type 0 where
  pub whole : Consumes old new script.items
  pub end : IsAtEnd new
  pub fits : vec_len script ≤ SCRIPT_LIMIT

-- no script was read: the reader gave too many bytes, a read failed or memory ran out
abbrev pub IsUnread : Option (List ℕ) → Option (List ℕ) → RunFault → Type 0
IsUnread old new Size = ReadsMoreThan SCRIPT_LIMIT old new
IsUnread old new Read = ReadsUpTo SCRIPT_LIMIT old new
IsUnread old new Memory = ReadsUpTo SCRIPT_LIMIT old new
IsUnread old new _ = ⊥

-- a script was read whole, or not
abbrev pub ReadsScript : Option (List ℕ) → Option (List ℕ) → Result (Vec ℕ) RunFault → Type 0
ReadsScript old new (Ok script) = HasRead old new script
ReadsScript old new (Err fault) = IsUnread old new fault

-- how much a run read, by how it ended: all, where it ended well; more than a script may have just
-- where it ends with that fault
abbrev pub ReadsBy : {T : Type 0} → Option (List ℕ) → Option (List ℕ) → Result T RunFault → Type 0
ReadsBy old new (Ok _) = ReadsUpTo SCRIPT_LIMIT old new × IsAtEnd new
ReadsBy old new (Err Size) = ReadsMoreThan SCRIPT_LIMIT old new
ReadsBy old new (Err _) = ReadsUpTo SCRIPT_LIMIT old new
