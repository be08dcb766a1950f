use Rattle.std.proofs.Common.{◌≡◌, ℕ, ◌||◌, Bool, true, false, refl}
use Rattle.mq_calls.specs.declared.errno.Errno.{Errno}
use Rattle.mq_calls.specs.declared.results.Refused.{Refused}
use Rattle.mq_system.specs.Outcome.{IsRefusal, IsTurnedAway}
use Rattle.mq_system.specs.Seat.{SeatState}
use Rattle.mq_system.specs.Seen.{Verdict}

-- without IPC_NOWAIT a call's waits end where its patience does
pub or_none : (ends : Bool) → (ends || false) ≡ ends
or_none true = refl
or_none false = refl

-- a call of the system was refused, and its errno alone is returned
pub refused_call : (early : Bool) (may : Errno → Type 0) (slot : ℕ) (verdict : Verdict) (old new : SeatState) (r : Refused) → IsTurnedAway early may slot verdict old new r
    → IsRefusal early may slot verdict old new r.errno
refused_call early may slot verdict old new r turned = record { entry = r.entry; turned = turned }
