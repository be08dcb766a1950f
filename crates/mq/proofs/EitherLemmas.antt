-- Two workers, and their answers in a list.
use Rattle.std.proofs.Common.{◌≡◌, List, [], ◌∷◌, ◌++◌, ap, refl}
use Rattle.mq_system.specs.Seat.{SeatState}
use Rattle.mq.specs.Either.{after_either}
use Rattle.mq.specs.Workers.{AreAfterWork}
use Rattle.mq.specs.declared.either.Either.{Either}
use Rattle.mq.specs.declared.either.Either.TheVariants.{One, Other}

-- what was taken first is the second, and what was taken next the first
pub last_two : {X : Type 0} (a b : X) (es front rest : List X) (x y : X) → es ≡ a ∷ b ∷ [] → es ≡ front ++ y ∷ [] → front ≡ rest ++ x ∷ []
    → (x ≡ a) × (y ≡ b)
last_two a b es [] [] x y e f g = absurd (cc g)
last_two a b es [] (r ∷ rest) x y e f g = absurd (cc g)
last_two a b es (p ∷ []) [] x y e f g =
    let first : x ≡ a = cc in
    let second : y ≡ b = cc in
    (first, second)
last_two a b es (p ∷ []) (r ∷ []) x y e f g = absurd (cc g)
last_two a b es (p ∷ []) (r ∷ s ∷ rest) x y e f g = absurd (cc g)
last_two a b es (p ∷ q ∷ []) rest x y e f g = absurd (cc (e, f))
last_two a b es (p ∷ q ∷ r ∷ more) rest x y e f g = absurd (cc (e, f))

module _ {A B X Y : Type 0} (one : A → SeatState → X → Type 0) (other : B → SeatState → Y → Type 0) where
  -- two seats and two answers, each of its worker
  pub record AreTheirs (a : A) (b : B) (seats : List SeatState) (answers : List (Either X Y)) : Type 0 where
    pub x : X
    pub y : Y
    pub seat : SeatState
    pub next : SeatState
    pub answers_are : answers ≡ One x ∷ Other y ∷ []
    pub seats_are : seats ≡ seat ∷ next ∷ []
    pub one_is : one a seat x
    pub other_is : other b next y

  lone : (b : B) (seats : List SeatState) (answers : List (Either X Y)) → AreAfterWork (after_either one other) (Other b ∷ []) seats answers
      → (next : SeatState) × (y : Y) × (seats ≡ next ∷ []) × (answers ≡ Other y ∷ []) × other b next y
  lone b [] [] all = absurd all
  lone b [] (a ∷ answers) all = absurd all
  lone b (s ∷ seats) [] all = absurd all
  lone b (s ∷ seats) (One x ∷ answers) all = absurd all.0
  lone b (s ∷ []) (Other y ∷ []) all = (s, y, refl, refl, all.0)
  lone b (s ∷ t ∷ seats) (Other y ∷ []) all = absurd all.1
  lone b (s ∷ []) (Other y ∷ a ∷ answers) all = absurd all.1
  lone b (s ∷ t ∷ seats) (Other y ∷ a ∷ answers) all = absurd all.1

  -- what two workers leave is of the one and of the other
  pub two_after : (a : A) (b : B) (workers : List (Either A B)) (seats : List SeatState) (answers : List (Either X Y))
      → workers ≡ One a ∷ Other b ∷ [] → AreAfterWork (after_either one other) workers seats answers → AreTheirs a b seats answers
  two_after a b workers seats answers is all = pair seats answers (rw is at all)
    where
      pair : (seats : List SeatState) (answers : List (Either X Y)) → AreAfterWork (after_either one other) (One a ∷ Other b ∷ []) seats answers
          → AreTheirs a b seats answers
      pair [] [] all = absurd all
      pair [] (a ∷ answers) all = absurd all
      pair (s ∷ seats) [] all = absurd all
      pair (s ∷ seats) (Other x ∷ answers) all = absurd all.0
      pair (s ∷ seats) (One x ∷ answers) all =
          let rest = lone b seats answers all.1 in
          record {
            x = x;
            y = rest.1;
            seat = s;
            next = rest.0;
            answers_are = ap (λ t. One x ∷ t) rest.3;
            seats_are = ap (λ t. s ∷ t) rest.2;
            one_is = all.0;
            other_is = rest.4;
          }

  -- the answers that were taken apart are these
  pub same_two : (answers : List (Either X Y)) (x u : X) (y v : Y) → answers ≡ One x ∷ Other y ∷ [] → answers ≡ One u ∷ Other v ∷ []
      → (u ≡ x) × (v ≡ y)
  same_two answers x u y v e f =
      let first : u ≡ x = cc in
      let second : v ≡ y = cc in
      (first, second)
