-- How much longer a call waits whose wait has an end.
use Rattle.std.specs.Prelude.{◌≡◌, ℕ, ◌+◌, ◌<◌, ◌≤◌, Option, None, Some}
use Rattle.core.specs.Duration.{as_nanos}
use Rattle.core.specs.declared.time.Duration.{Duration}
use Rattle.std.specs.Time.{FitsClock, instant_nanos}
use Rattle.mq_system.specs.declared.patience.End.{End}
use Rattle.mq_system.specs.declared.patience.End.TheVariants.{After, At}

-- a time that is left until an end: all of the span where the wait begins, then no more than until
-- its time
abbrev pub IsLeft : End → Duration → Type 0
IsLeft (After span) left = (0 < as_nanos left) × (as_nanos left ≡ as_nanos span)
IsLeft (At time) left = (0 < as_nanos left) × (as_nanos left ≤ instant_nanos time)

-- an end stays as it is, or that of a span becomes a time no earlier than the span is long
abbrev pub IsHeld : End → End → Type 0
IsHeld (At time) new = new ≡ At time
IsHeld (After span) (After same) = same ≡ span
IsHeld (After span) (At time) = as_nanos span ≤ instant_nanos time

-- the time of the clock at which a wait ends that has this end at a time
abbrev pub end_nanos : ℕ → End → ℕ
end_nanos now (At time) = instant_nanos time
end_nanos now (After span) = now + as_nanos span

-- what is left at a time until then: nothing where it is reached, else just what the clock lacks
abbrev pub IsLeftAt : ℕ → End → Option Duration → Type 0
IsLeftAt now end None = end_nanos now end ≤ now
IsLeftAt now end (Some left) = (0 < as_nanos left) × (as_nanos left + now ≡ end_nanos now end)

-- the end from that time on: a time stays, and a span becomes one, unless the clock never reads it
abbrev pub IsHeldAt : ℕ → End → End → Type 0
IsHeldAt now (At time) new = new ≡ At time
IsHeldAt now (After span) (At time) = instant_nanos time ≡ now + as_nanos span
IsHeldAt now (After span) (After same) = (same ≡ span) × (FitsClock (now + as_nanos span) → ⊥)
