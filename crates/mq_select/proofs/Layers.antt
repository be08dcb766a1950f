-- Places that rise through two layers: in which of them a place is.
use Rattle.std.proofs.Common.{◌≡◌, ℕ, ℤ, ◌<◌, ◌==◌, nat_le, List, [], ◌∷◌, ◌++◌, All, AllPairs, find, Some, Bool, true, false, not, if◌then◌else◌, refl, arith, zero, suc}
use Rattle.std.specs.List.{AllByRecursion}
use Rattle.std.specs.Option.{option_map}
use Rattle.std.proofs.lemmas.Bool.{ne_eqb}
use Rattle.std.proofs.lemmas.Bool.Decides.{nat_tests}
use Rattle.std.proofs.lemmas.List.{append-nil, append_assoc}
use Rattle.std.proofs.lemmas.List.Elements.{All-nil, All-cons, All-head, All-tail, filter-append, recursion_from_All}
use Rattle.std.proofs.lemmas.List.Folds.{find-append}
use Rattle.mq_message.specs.Waiting.{message_at, without, Listed}
use Rattle.mq_select.specs.ByType.{some_wait, IsRising}
use Rattle.mq_select.specs.Layered.{reaches, room_for}
use Rattle.mq_select.specs.Same.{Same}
use Rattle.mq_select.proofs.Merging.{int_eq-here, rising_append, rising_filter}
use Rattle.mq_select.proofs.Sames.{none_found}

-- what holds of both holds of each
pub all_before : {X : Type 0} (P : X → Type 0) (xs ys : List X) → All P (xs ++ ys) → All P xs
all_before P [] ys h = All-nil P
all_before P (x ∷ xs) ys h = All-cons P x xs (All-head P x (xs ++ ys) h) (all_before P xs ys (All-tail P x (xs ++ ys) h))

pub all_behind : {X : Type 0} (P : X → Type 0) (xs ys : List X) → All P (xs ++ ys) → All P ys
all_behind P [] ys h = h
all_behind P (x ∷ xs) ys h = all_behind P xs ys (All-tail P x (xs ++ ys) h)

pub both_empty : {X : Type 0} (xs ys : List X) → xs ++ ys ≡ [] → (xs ≡ []) × (ys ≡ [])
both_empty [] ys e = (refl, e)
both_empty (x ∷ xs) ys e = cc

-- what joins those of one type is of it, and none is pending behind them
pub joined : {X : Type 0} (behind : List X) (b : Bool) → (if some_wait behind then false else b) ≡ true → (behind ≡ []) × (b ≡ true)
joined behind b e = grind arith

-- a place in the second layer is in no message of the first
passed : {X : Type 0} (place n : ℕ) (xs ys : List (ℕ × X)) → AllByRecursion (λ y. n < y.0) (xs ++ ys) → reaches place ys ≡ true → (n == place) ≡ false
passed place n [] [] h e = cc
passed place n [] (y ∷ ys) h e = grind (arith, nat_tests, h.0)
passed place n (x ∷ xs) ys h e = passed place n xs ys h.1 e

pub message_behind : {X : Type 0} (place : ℕ) (xs ys : List (ℕ × X)) → IsRising (xs ++ ys) → reaches place ys ≡ true → message_at place (xs ++ ys) ≡ message_at place ys
message_behind place [] ys rising e = refl
message_behind place (x ∷ xs) ys rising e = rw (passed place x.0 xs ys rising.0 e) (message_behind place xs ys rising.1 e)

pub without_behind : {X : Type 0} (place : ℕ) (xs ys : List (ℕ × X)) → IsRising (xs ++ ys) → reaches place ys ≡ true → without place (xs ++ ys) ≡ xs ++ without place ys
without_behind place [] ys rising e = refl
without_behind place (x ∷ xs) ys rising e = rw (passed place x.0 xs ys rising.0 e) (rw (without_behind place xs ys rising.1 e) refl)

-- a place before the second layer is in no message of that
above_not : (place n : ℕ) → place < n → (n == place) ≡ false
above_not place n l = ne_eqb _ _ (λ same. absurd (omega (arith, same, l)))

pub message_before : {X : Type 0} (place : ℕ) (xs ys : List (ℕ × X)) → All (λ m. place < m.0) ys → message_at place (xs ++ ys) ≡ message_at place xs
message_before {X} place xs ys h =
    let none = none_found (λ (m : ℕ × X). m.0 == place) ys (λ k d l. above_not place _ (h k d l)) in
    grind (arith, none, find-append (λ (m : ℕ × X). m.0 == place) xs ys)

kept : {X : Type 0} (place : ℕ) (ys : List (ℕ × X)) → All (λ m. place < m.0) ys → without place ys ≡ ys
kept place [] h = refl
kept {X} place (y ∷ ys) h =
    let above = All-head (λ (m : ℕ × X). place < m.0) y ys h in
    rw (above_not place y.0 above, kept place ys (All-tail (λ (m : ℕ × X). place < m.0) y ys h)) refl

pub without_before : {X : Type 0} (place : ℕ) (xs ys : List (ℕ × X)) → All (λ m. place < m.0) ys → without place (xs ++ ys) ≡ without place xs ++ ys
without_before {X} place xs ys h = rw (filter-append (λ (m : ℕ × X). not (m.0 == place)) xs ys, kept place ys h) refl

-- whether the first place is reached
pub reached : {X : Type 0} (place least : ℕ) (xs : List (ℕ × X)) → Some least ≡ option_map (λ (x : ℕ × X). x.0) (find (λ _. true) xs) → reaches place xs ≡ nat_le least place
reached place least xs e = grind arith

pub not_reached : {X : Type 0} (place : ℕ) (xs : List (ℕ × X)) → AllPairs (λ a b. a.0 < b.0) xs → reaches place xs ≡ false → All (λ m. place < m.0) xs
not_reached place [] rising e k d l = absurd (omega arith)
not_reached place (x ∷ xs) rising e zero d l = grind (arith, nat_tests)
not_reached place (x ∷ xs) rising e (suc k) d l = grind (arith, nat_tests, e, rising 0 (suc k) d (omega arith) l)

-- with one message more at the end, places still rise
pub rising_joined : {X : Type 0} (xs ys new : List (ℕ × X)) (m : ℕ × X) → IsRising (xs ++ ys) → All (λ x. x.0 < m.0) (xs ++ ys) → ys ≡ [] → new ≡ xs ++ m ∷ [] → IsRising (new ++ ys)
rising_joined {X} xs ys new m rising above none is =
    let before = all_before (λ (x : ℕ × X). x.0 < m.0) xs ys above in
    let alone = rw (none, append-nil xs) at rising in
    rw (none, append-nil new, is) (rising_append xs m alone (recursion_from_All (λ (x : ℕ × X). x.0 < m.0) xs before))

pub rising_behind : {X : Type 0} (xs ys new : List (ℕ × X)) (m : ℕ × X) → IsRising (xs ++ ys) → All (λ x. x.0 < m.0) (xs ++ ys) → new ≡ ys ++ m ∷ [] → IsRising (xs ++ new)
rising_behind {X} xs ys new m rising above is =
    rw (is, ← append_assoc xs ys (m ∷ [])) (rising_append (xs ++ ys) m rising (recursion_from_All (λ (x : ℕ × X). x.0 < m.0) (xs ++ ys) above))

-- with one message less, places still rise
pub rising_without : {X : Type 0} (place : ℕ) (all left : List (ℕ × X)) → IsRising all → left ≡ without place all → IsRising left
rising_without {X} place all left rising is = rw is (rising_filter (λ (m : ℕ × X). not (m.0 == place)) all rising)

-- places that rise by index rise
recursion_rise : {X : Type 0} (xs : List (ℕ × X)) → AllPairs (λ a b. a.0 < b.0) xs → IsRising xs
recursion_rise [] h = tt
recursion_rise {X} (x ∷ xs) h = (
  recursion_from_All (λ (y : ℕ × X). x.0 < y.0) xs (λ k d l. h 0 (suc k) d (omega arith) (omega arith)),
  recursion_rise xs (λ i j d l m. h (suc i) (suc j) d (omega arith) (omega arith)),
)

pub rising_alone : {X : Type 0} (xs ys : List (ℕ × X)) → AllPairs (λ a b. a.0 < b.0) xs → ys ≡ [] → IsRising (xs ++ ys)
rising_alone xs ys h none = rw (none, append-nil xs) (recursion_rise xs h)

-- where none is pending behind those of a type, there is room for it if they have some
pub room_alone : {B : Type 0} (first : Same B) (rest : Listed B) (t : ℤ) → rest.messages ≡ [] → first.mtype ≡ t → first.prepared ≡ Some t → room_for first rest t ≡ Some t
room_alone first rest t none is room = rw (none, is, int_eq-here t) room
