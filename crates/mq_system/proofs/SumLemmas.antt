-- How what each seat counts adds up to what each slot holds.
use Rattle.std.proofs.Common.{◌≡◌, ◌≢◌, ◌⊎◌, inl, inr, ℕ, zero, suc, ◌+◌, ◌<◌, ◌≤◌, ◌==◌, true, false, cond, List, [], ◌∷◌, map, length, All, AllPairs, sum, sum_by, count_by, slice_index, slice_index_or, refl, ap, sym, ◌∙◌, arith, ne_eqb}
use Rattle.std.proofs.lemmas.Bool.Decides.{eqb_tells}
use Rattle.std.proofs.lemmas.List.Elements.{All-head, All-tail}
use Rattle.std.proofs.lemmas.List.Sums.{sum_by-append, sum_by-cons, sum_by-le}
use mathlib.Core.List.{IsPrefix}

-- the sum of f at 0, 1 and so on, n numbers in all
abbrev sum_below : (ℕ → ℕ) → ℕ → ℕ
sum_below f zero = 0
sum_below f (suc n) = f 0 + sum_below (λ k. f (suc k)) n

-- a sum of zeros is zero
none_below : (n : ℕ) → sum_below (λ k. 0) n ≡ 0
none_below zero = refl
none_below (suc n) = omega (arith, none_below n)

-- a sum of sums is the sum of both
both_below : (f g : ℕ → ℕ) (n : ℕ)
    → sum_below (λ k. f k + g k) n ≡ sum_below f n + sum_below g n
both_below f g zero = omega arith
both_below f g (suc n) = omega (arith, both_below (λ k. f (suc k)) (λ k. g (suc k)) n)

-- what is no more at each place is no more in all
no_more_below : (f g : ℕ → ℕ) (n : ℕ) → ((k : ℕ) → k < n → f k ≤ g k)
    → sum_below f n ≤ sum_below g n
no_more_below f g zero each = omega arith
no_more_below f g (suc n) each =
    omega (arith, each 0 (omega arith), no_more_below (λ k. f (suc k)) (λ k. g (suc k)) n (λ k low. each (suc k) (omega arith)))

-- what is no more at each place, and as much in all, is as much at each place
same_below : (f g : ℕ → ℕ) (n : ℕ) → ((k : ℕ) → k < n → f k ≤ g k)
    → sum_below f n ≡ sum_below g n → (k : ℕ) → k < n → f k ≡ g k
same_below f g zero each same k low = absurd (omega arith)
same_below f g (suc n) each same zero low =
    omega (arith, each 0 (omega arith), no_more_below (λ j. f (suc j)) (λ j. g (suc j)) n (λ j less. each (suc j) (omega arith)))
same_below f g (suc n) each same (suc k) low =
    let first = each 0 (omega arith) in
    let later : (j : ℕ) → j < n → f (suc j) ≤ g (suc j) = λ j less. each (suc j) (omega arith) in
    let rest = no_more_below (λ j. f (suc j)) (λ j. g (suc j)) n later in
    same_below (λ j. f (suc j)) (λ j. g (suc j)) n later (omega arith) k (omega arith)

module _ {X : Type 0} where
  -- a sum over a list is the sum over its places
  by_place : (f : X → ℕ) (xs : List X) (d : X)
      → sum_by f xs ≡ sum_below (λ k. f (slice_index_or xs k d)) (length xs)
  by_place f [] d = refl
  by_place f (x ∷ xs) d = omega (arith, sum_by-cons f x xs, by_place f xs d)

  -- a list's sum of sums is the sum of both
  both_over : (f g : X → ℕ) (xs : List X) → sum_by (λ x. f x + g x) xs ≡ sum_by f xs + sum_by g xs
  both_over f g [] = omega arith
  both_over f g (x ∷ xs) =
      omega (arith, sum_by-cons (λ y. f y + g y) x xs, sum_by-cons f x xs, sum_by-cons g x xs, both_over f g xs)

  -- what is no more at each element is no more in all
  no_more_over : (f g : X → ℕ) (xs : List X) → All (λ x. f x ≤ g x) xs → sum_by f xs ≤ sum_by g xs
  no_more_over f g [] each = omega arith
  no_more_over f g (x ∷ xs) each =
      omega (arith, sum_by-cons f x xs, sum_by-cons g x xs, All-head (λ y. f y ≤ g y) x xs each, no_more_over f g xs (All-tail (λ y. f y ≤ g y) x xs each))

module _ {S : Type 0} (number : S → ℕ) where
  -- no seat has a number that differs from all of theirs
  none_has : (a : ℕ) (seats : List S) → All (λ q. a ≢ q) (map number seats)
      → sum_by (λ s. cond (a == number s) 1 0) seats ≡ 0
  none_has a [] other = refl
  none_has a (s ∷ ss) other =
      rw (sum_by-cons (λ (t : S). cond (a == number t) 1 0) s ss, ne_eqb a (number s) (All-head (λ q. a ≢ q) (number s) (map number ss) other))
      (omega (arith, none_has a ss (All-tail (λ q. a ≢ q) (number s) (map number ss) other)))

  -- at most one seat has a number
  at_most_one : (a : ℕ) (seats : List S) → AllPairs (λ p q. p ≢ q) (map number seats)
      → sum_by (λ s. cond (a == number s) 1 0) seats ≤ 1
  at_most_one a [] apart = omega arith
  at_most_one a (s ∷ ss) apart =
      by (at_most_one a ss (λ i j d less within. apart (suc i) (suc j) d (omega arith) (omega arith)))
      (eqb_tells a (number s))
    where
      by : sum_by (λ t. cond (a == number t) 1 0) ss ≤ 1
          → (((a == number s) ≡ true) × (a ≡ number s)) ⊎ (((a == number s) ≡ false) × (a ≢ number s))
          → sum_by (λ t. cond (a == number t) 1 0) (s ∷ ss) ≤ 1
      by rest (inl p) =
          let others : All (λ q. a ≢ q) (map number ss) =
          λ k d low same. apart 0 (suc k) d (omega arith) (omega arith) (sym p.1 ∙ same) in
          rw (sum_by-cons (λ (t : S). cond (a == number t) 1 0) s ss, p.0, none_has a ss others)
          (omega arith)
      by rest (inr p) =
          rw (sum_by-cons (λ (t : S). cond (a == number t) 1 0) s ss, p.0) (omega (arith, rest))

  module _ {E : Type 0} (author : E → ℕ) where
    -- seats whose numbers differ made no more events together than there are
    numbers_apart : (seats : List S) → AllPairs (λ p q. p ≢ q) (map number seats)
        → (events : List E)
        → sum_by (λ s. count_by (λ e. author e == number s) events) seats ≤ length events
    numbers_apart seats apart [] = omega (arith, sum_by-le (λ (s : S). 0) 0 seats (λ k d low. omega arith))
    numbers_apart seats apart (e ∷ es) =
        let has : S → ℕ = λ s. cond (author e == number s) 1 0 in
        let had : S → ℕ = λ s. count_by (λ x. author x == number s) es in
        let more : sum_by (λ s. count_by (λ x. author x == number s) (e ∷ es)) seats ≡ sum_by (λ s. has s + had s) seats =
        λ i. sum_by (λ (s : S). sum_by-cons (λ (x : E). cond (author x == number s) 1 0) e es i) seats in
        omega (arith, more, both_over has had seats, at_most_one (author e) seats apart, numbers_apart seats apart es)

    -- a prefix has no more events of a seat
    prefix_counts : (s : S) (first all : List E) → IsPrefix first all
        → count_by (λ e. author e == number s) first ≤ count_by (λ e. author e == number s) all
    prefix_counts s first all p =
        omega (arith, ap (count_by (λ e. author e == number s)) p.1, sum_by-append (λ (e : E). cond (author e == number s) 1 0) first p.0)

-- the sum over the seats of what each counts is the sum over the slots of what all count there
exchange : {S : Type 0} (counts : S → List ℕ) (slots : ℕ) (seats : List S)
    → All (λ s. length (counts s) ≡ slots) seats
    → sum_by (λ s. sum (counts s)) seats
    ≡ sum_below (λ k. sum_by (λ s. slice_index (counts s) k) seats) slots
exchange counts slots [] each = sym (none_below slots)
exchange {S} counts slots (s ∷ ss) each =
    let own : sum (counts s) ≡ sum_below (λ k. slice_index (counts s) k) slots =
    by_place (λ n. n) (counts s) 0
    ∙ ap (sum_below (λ k. slice_index (counts s) k)) (All-head (λ t. length (counts t) ≡ slots) s ss each) in
    let rest = exchange counts slots ss (All-tail (λ t. length (counts t) ≡ slots) s ss each) in
    let both = both_below (λ k. slice_index (counts s) k) (λ k. sum_by (λ t. slice_index (counts t) k) ss) slots in
    sum_by-cons (λ (t : S). sum (counts t)) s ss
    ∙ (omega (arith, own, rest, both)
    ∙ (λ i. sum_below (λ k. sym (sum_by-cons (λ (t : S). slice_index (counts t) k) s ss) i) slots))

-- where seats with different numbers count together all that happened, each slot has what they count there
pub add_up : {E S : Type 0} (author : E → ℕ) (number : S → ℕ) (counts : S → List ℕ) (fronts : S → List (List E)) (slots : ℕ) (seats : List S) (lists : List (List E))
    → length lists ≡ slots
    → All (λ s. length (counts s) ≡ slots) seats
    → AllPairs (λ p q. p ≢ q) (map number seats)
    → All (λ s. (k : ℕ) → k < slots → slice_index (counts s) k ≤ count_by (λ e. author e == number s) (slice_index_or (fronts s) k [])) seats
    → All (λ s. (k : ℕ) → k < slots → IsPrefix (slice_index_or (fronts s) k []) (slice_index_or lists k [])) seats
    → sum_by length lists ≡ sum_by (λ s. sum (counts s)) seats
    → (k : ℕ) → k < slots → length (slice_index_or lists k []) ≡ sum_by (λ s. slice_index (counts s) k) seats
add_up {E} {S} author number counts fronts slots seats lists many each apart known seen total k low =
    sym (same_below here there slots column same k low)
  where
    here : ℕ → ℕ
    here j = sum_by (λ s. slice_index (counts s) j) seats

    there : ℕ → ℕ
    there j = length (slice_index_or lists j [])

    column : (j : ℕ) → j < slots → here j ≤ there j
    column j less =
        let events = slice_index_or lists j [] in
        let made : S → ℕ = λ s. count_by (λ e. author e == number s) events in
        let each_made : All (λ s. slice_index (counts s) j ≤ made s) seats =
        λ i d within.
        let s = slice_index_or seats i d in
        omega (arith, known i d within j less, prefix_counts number author s (slice_index_or (fronts s) j []) events (seen i d within j less)) in
        omega (arith, no_more_over (λ s. slice_index (counts s) j) made seats each_made, numbers_apart number author seats apart events)

    same : sum_below here slots ≡ sum_below there slots
    same =
        sym (exchange counts slots seats each)
        ∙ (sym total ∙ (by_place length lists [] ∙ ap (sum_below there) many))
