-- The element at a place, in a list whose places rise.
use Rattle.std.proofs.Common.{◌≡◌, ℕ, ◌+◌, ◌<◌, ◌==◌, suc, List, [], ◌∷◌, length, map, find, filter, sum_by, All, AllPairs, Some, Bool, true, false, not, cond, refl, subst, arith}
use lib.ListN.{get_or-map}
use Rattle.std.proofs.lemmas.Bool.Decides.{nat_tests}
use Rattle.std.proofs.lemmas.List.{length-map}
use Rattle.std.proofs.lemmas.List.Filters.{length-filter_both, sum_by-filter_both}
use Rattle.std.proofs.lemmas.Option.{none-some, same_Some}

-- the places of a list rise
abbrev pub Rises : {X : Type 0} → (X → ℕ) → List X → Type 0
Rises place xs = AllPairs (λ a b. place a < place b) xs

-- the first place is below all others
pub first_least : {X : Type 0} (place : X → ℕ) (y : X) (ys : List X) → Rises place (y ∷ ys) → All (λ m. place y < place m) ys
first_least place y ys rises k d l = rises 0 (suc k) d (omega arith) (omega arith)

-- what follows the first rises too
pub rest_rises : {X : Type 0} (place : X → ℕ) (y : X) (ys : List X) → Rises place (y ∷ ys) → Rises place ys
rest_rises place y ys rises i j d less l = rises (suc i) (suc j) d (omega arith) (omega arith)

-- what holds of each holds of what is found
pub found_is : {X : Type 0} (P : X → Type 0) (p : X → Bool) (xs : List X) (x : X) → All P xs → find p xs ≡ Some x → P x
found_is P p [] x all found = absurd (none-some x found)
found_is {X} P p (y ∷ ys) x all found = by (p y) found (found_is P p ys x (λ k d l. all (suc k) d (omega arith)))
  where
    by : (b : Bool) → cond b (Some y) (find p ys) ≡ Some x → (find p ys ≡ Some x → P x) → P x
    by true e later = subst P (same_Some _ _ e) (all 0 y (omega arith))
    by false e later = later e

-- nothing is at a place below all others
none_at : {X : Type 0} (place : X → ℕ) (n at : ℕ) (xs : List X) → All (λ m. n < place m) xs → n ≡ at → filter (λ m. place m == at) xs ≡ []
none_at place n at [] above same = refl
none_at place n at (y ∷ ys) above same =
    grind (arith, nat_tests, above 0 y (omega arith), none_at place n at ys (λ k d l. above (suc k) d (omega arith)))

-- what a test finds is alone at its place
one_at : {X : Type 0} (place : X → ℕ) (p : X → Bool) (xs : List X) (x : X) → Rises place xs → find p xs ≡ Some x → filter (λ m. place m == place x) xs ≡ x ∷ []
one_at place p [] x rises found = cc
one_at place p (y ∷ ys) x rises found =
    let above = first_least place y ys rises in
    grind (arith, nat_tests, none_at place (place y) (place x) ys above, found_is (λ m. place y < place m) p ys x above, one_at place p ys x (rest_rises place y ys rises))

-- without what a test finds the list is shorter by one
pub length-without : {X : Type 0} (place : X → ℕ) (p : X → Bool) (xs : List X) (x : X) → Rises place xs → find p xs ≡ Some x → 1 + length (filter (λ m. not (place m == place x)) xs) ≡ length xs
length-without {X} place p xs x rises found =
    rw (one_at place p xs x rises found) at (length-filter_both (λ (m : X). place m == place x) (λ m. not (place m == place x)) (λ _. refl) xs)

-- and the sum is less by what it adds
pub sum_by-without : {X : Type 0} (place : X → ℕ) (p : X → Bool) (f : X → ℕ) (xs : List X) (x : X) → Rises place xs → find p xs ≡ Some x → f x + sum_by f (filter (λ m. not (place m == place x)) xs) ≡ sum_by f xs
sum_by-without {X} place p f xs x rises found =
    omega (arith, rw (one_at place p xs x rises found) at (sum_by-filter_both (λ (m : X). place m == place x) (λ m. not (place m == place x)) (λ _. refl) f xs))

-- what holds of each two of a list that was mapped
pub pairs_unmapped : {X Y : Type 0} (R : Y → Y → Type 0) (f : X → Y) (xs : List X) → AllPairs R (map f xs) → AllPairs (λ a b. R (f a) (f b)) xs
pairs_unmapped R f xs all i j d less within =
    let within' : j < length (map f xs) = rw (length-map xs f) within in
    rw (get_or-map f xs i d, get_or-map f xs j d) at (all i j (f d) less within')

-- what holds of each of a list that was mapped
pub all_unmapped : {X Y : Type 0} (P : Y → Type 0) (f : X → Y) (xs : List X) → All P (map f xs) → All (λ a. P (f a)) xs
all_unmapped P f xs all k d within =
    let within' : k < length (map f xs) = rw (length-map xs f) within in
    rw (get_or-map f xs k d) at (all k (f d) within')
