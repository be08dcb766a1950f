-- When a slot's log is drained.
use Rattle.std.specs.Prelude.{◌≡◌, ℕ, ◌==◌, ◌%◌, ◌-◌, nat_lt, Bool, true, false, ◌&&◌, length}
use Rattle.std.specs.Prelude.{Option, Some, None, Result, Ok, Err}
use Rattle.mq_calls.specs.Calls.{cut_log}
use Rattle.mq_calls.specs.State.{QueuesState}
use Rattle.mq_face.specs.declared.log.TheConstants.{LOG_BOUND}

-- after every LOG_BOUND entries of a slot that is there
abbrev pub is_due : QueuesState → ℕ → Option ℕ → Bool
is_due s slot (Some entry) =
    (entry % LOG_BOUND == LOG_BOUND - 1) && nat_lt slot (length s.slots)
is_due s slot None = false

-- the log is drained where that is due, and else all stays; where memory ran out it stays too
abbrev pub CutsWhereDue : {E : Type 0} → QueuesState → ℕ → Option ℕ → QueuesState → Result Bool E
    → Type 0
CutsWhereDue before slot entry after (Ok true) =
    (is_due before slot entry ≡ true) × (after ≡ (cut_log before slot).1)
CutsWhereDue before slot entry after (Ok false) =
    (is_due before slot entry ≡ false) × (after ≡ before)
CutsWhereDue before slot entry after (Err error) =
    (is_due before slot entry ≡ true) × (after ≡ before)
