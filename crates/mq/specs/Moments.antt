-- The timestamps that a caller's calls pass to the queues.
use Rattle.std.specs.Prelude.{◌≡◌, false}
use Rattle.mq.specs.declared.moments.Moments.{Moments}

-- the moments after a call: read from a clock, or as they were
pub record IsTimed (old new : Moments) : Type 0 where
  pub same : new.by_clock ≡ old.by_clock
  pub kept : old.by_clock ≡ false → new ≡ old
