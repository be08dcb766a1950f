-- Messages that are values.
use Rattle.std.specs.Prelude.{◌≡◌, ◌⊎◌, ℕ, ℤ, Bool, List}
use Rattle.std.specs.Global.{Vec}
use Rattle.mq_calls.specs.declared.errno.Errno.{Errno}
use Rattle.mq_calls.specs.declared.errno.Errno.TheVariants.{ENOMEM}
use Rattle.mq_calls.specs.declared.results.Delivered.{Delivered}
use Rattle.mq_system.specs.Seat.{SeatState}
use Rattle.mq.specs.Caller.{IsNotDraftedWithin, IsUnasked}
use Rattle.mq.specs.declared.not_received.NotReceived.{NotReceived}
use Rattle.mq.specs.declared.not_received.NotReceived.TheVariants.{NoMemory, Refused}

-- the bytes are those of a value that was vowed
abbrev pub carries : {T : Type 0} → (T → List ℕ) → (ℕ → ℕ → ℤ → T → Type 0) → ℕ → ℕ → ℤ → List ℕ
    → Type 0
carries bytes_of vowed seat tag mtype bytes =
    (x : _) × (bytes ≡ bytes_of x) × vowed seat tag mtype x

-- there was no memory for the bytes of a value
abbrev pub IsNotWritten : SeatState → SeatState → Errno → Type 0
IsNotWritten old new errno = (errno ≡ ENOMEM) × IsUnasked old new

-- a value of so many bytes did not become a text
abbrev pub IsNotMade : Bool → ℕ → ℕ → SeatState → SeatState → Errno → Type 0
IsNotMade ends height n old new errno =
    IsNotWritten old new errno ⊎ IsNotDraftedWithin ends height n old new errno

-- the manual's name of why no value was received
abbrev pub errno_of : NotReceived → Errno
errno_of (Refused errno) = errno
errno_of (NoMemory d) = ENOMEM

-- no value was received: the call was refused, or there was no memory for it beside its bytes
abbrev pub IsNoValue : (Errno → Type 0) → (Delivered (Vec ℕ) → Type 0) → NotReceived → Type 0
IsNoValue refused received (Refused errno) = refused errno
IsNoValue refused received (NoMemory d) = received d
