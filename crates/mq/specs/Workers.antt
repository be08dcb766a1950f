-- What is known of the answers of workers, and of the seats that they leave.
use Rattle.std.specs.Prelude.{◌≡◌, ℕ, List, [], ◌∷◌, Option, Some, IfSome, slice_get}
use Rattle.mq_system.specs.Seat.{SeatState}
use Rattle.mq_calls.specs.declared.close.ClosedSlot.{ClosedSlot}
use Rattle.mq.specs.Ended.{AreChanges}

-- what is known after a worker's work holds of its seat and its answer, and these stand in the
-- order of the workers
abbrev pub AreAfterWork : {W A : Type 0} → (W → SeatState → A → Type 0)
    → List W → List SeatState → List A → Type 0
AreAfterWork after [] [] [] = Unit {0}
AreAfterWork after (worker ∷ workers) (seat ∷ seats) (answer ∷ answers) =
    after worker seat answer × AreAfterWork after workers seats answers
AreAfterWork after _ _ _ = ⊥

-- the answers are those of workers at seats whose changes, and no others, are in these slots
pub record AreOf {W A : Type 0} (after : W → SeatState → A → Type 0) (last_seq : ℕ)
    (workers : List W) (answers : List A) (slots : List ClosedSlot) : Type 0 where
  pub seats : List SeatState
  pub each : AreAfterWork after workers seats answers
  pub changes : AreChanges last_seq seats slots

-- the same of two workers of different types
pub record AreOfTwo {V W A B : Type 0} (one : V → SeatState → A → Type 0)
    (other : W → SeatState → B → Type 0) (last_seq : ℕ) (first : V) (second : W) (answers : A × B)
    (slots : List ClosedSlot) : Type 0 where
  pub seat : SeatState
  pub next : SeatState
  pub one_is : one first seat answers.0
  pub other_is : other second next answers.1
  pub changes : AreChanges last_seq (seat ∷ next ∷ []) slots

-- an answer is that of the worker of this place, where it left this seat
abbrev pub IsOf : {W A : Type 0} → (W → SeatState → A → Type 0)
    → List W → ℕ → SeatState → A → Type 0
IsOf {W} after workers place seat answer =
    (worker : W) × (slice_get workers place ≡ Some worker) × after worker seat answer

-- at a seat is the worker of its place, and what was answered there is that worker's answer
pub record IsSeatOfWorker {W A : Type 0} (after : W → SeatState → A → Type 0) (workers : List W)
    (place : ℕ) (seat : SeatState) (worker : Option W) (answer : Option A) : Type 0 where
  pub worker_is : IfSome worker (λ w. slice_get workers place ≡ Some w)
  pub answer_is : IfSome answer (IsOf after workers place seat)
