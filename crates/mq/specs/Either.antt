-- Workers of two types, and what is known of their answers.
use Rattle.std.specs.Prelude.{◌≡◌, List, [], ◌∷◌}
use Rattle.mq_system.specs.Seat.{SeatState}
use Rattle.mq.specs.declared.either.Either.{Either}
use Rattle.mq.specs.declared.either.Either.TheVariants.{One, Other}

-- a list has one of the first type, and then one of the other
abbrev pub AreTwo : {A B : Type 0} → List (Either A B) → Type 0
AreTwo {A} {B} both = (one : A) × (other : B) × (both ≡ One one ∷ Other other ∷ [])

-- an answer is of the worker's type, and what is known of that worker's answers holds of it
abbrev pub after_either : {A B X Y : Type 0} → (A → SeatState → X → Type 0)
    → (B → SeatState → Y → Type 0) → Either A B → SeatState → Either X Y → Type 0
after_either one other (One worker) seat (One answer) = one worker seat answer
after_either one other (One worker) seat (Other answer) = ⊥
after_either one other (Other worker) seat (One answer) = ⊥
after_either one other (Other worker) seat (Other answer) = other worker seat answer
