-- What a wait has left, from what its clock reads.
use Rattle.std.proofs.Common.{ℕ, Some, arith}
use Rattle.core.specs.declared.time.Duration.{Duration}
use Rattle.mq_system.specs.declared.patience.End.{End}
use Rattle.mq_system.specs.declared.patience.End.TheVariants.{After, At}
use Rattle.mq_system.specs.Patience.{IsHeld, IsHeldAt, IsLeft, IsLeftAt}

pub left_of : (now : ℕ) (end : End) (left : Duration) → IsLeftAt now end (Some left)
    → IsLeft end left
left_of now (At time) left is = (is.0, omega (arith, is.1))
left_of now (After span) left is = (is.0, omega (arith, is.1))

pub held_of : (now : ℕ) (old new : End) → IsHeldAt now old new → IsHeld old new
held_of now (At time) new is = is
held_of now (After span) (After same) is = is.0
held_of now (After span) (At time) is = omega (arith, is)
