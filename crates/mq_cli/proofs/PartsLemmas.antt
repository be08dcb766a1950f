use Rattle.std.proofs.Common.{◌≡◌, ℕ, ◌+◌, ◌-◌, ◌<◌, ◌≤◌, sym, ◌∙◌, Bool, true, false, not, cond, List, [], ◌∷◌, length, take, drop, Option, Some, None, refl, subst, arith}
use Rattle.std.specs.List.{slice_split, onto_first, position, position_or_len}
use Rattle.std.proofs.lemmas.Bool.{false≢true}
use Rattle.std.proofs.lemmas.List.Splits.{slice_split_first}
use Rattle.std.proofs.lemmas.List.Sums.{fails_before_first, passes_at_first}
use Rattle.std.proofs.lemmas.Option.{cond_some}
use Rattle.std.proofs.lemmas.Grind.{common_steps}
use Rattle.std.specs.Prelude.{nat_lt}
use Rattle.memchr.specs.Find.{IsFirstByte}
use borrow.Author.Tests.{ltb-true}

split_step : (b : Bool) (x : ℕ) (xs : List ℕ) (n : ℕ) (parts : List (List ℕ)) → length xs + 1 ≤ cond (not b) (1 + n) 0
    → (length xs ≤ n → parts ≡ xs ∷ []) → cond b ([] ∷ parts) (onto_first x parts) ≡ (x ∷ xs) ∷ []
split_step true x xs n parts long one = absurd (omega arith)
split_step false x xs n parts long one = rw (one (omega arith)) refl

-- a text in which no byte passes is its one part
pub split_at_none : (p : ℕ → Bool) (xs : List ℕ) → length xs ≤ position_or_len p xs → slice_split p xs ≡ xs ∷ []
split_at_none p [] long = refl
split_at_none p (x ∷ xs) long = split_step (p x) x xs (position_or_len p xs) (slice_split p xs) (omega (arith, long)) (split_at_none p xs)

none_long : (n m : ℕ) → cond (nat_lt n m) (Some n) None ≡ None → m ≤ n
none_long n m e = grind (arith, common_steps)

pub split_where_none : (p : ℕ → Bool) (xs : List ℕ) → position p xs ≡ None → slice_split p xs ≡ xs ∷ []
split_where_none p xs e = split_at_none p xs (none_long (position_or_len p xs) (length xs) e)

-- the first part ends at the first byte that passes
pub split_where_some : (p : ℕ → Bool) (xs : List ℕ) (k : ℕ) → position p xs ≡ Some k → slice_split p xs ≡ take k xs ∷ slice_split p (drop (k + 1) xs)
split_where_some p xs k e =
    let found = cond_some (nat_lt (position_or_len p xs) (length xs)) (position_or_len p xs) k e in
    subst (λ (n : ℕ). slice_split p xs ≡ take n xs ∷ slice_split p (drop (n + 1) xs)) found.1
    (slice_split_first p xs 0 (ltb-true _ _ found.0))

rest_whole : (n : ℕ) (xs : List ℕ) → take (length xs - n) (drop n xs) ≡ drop n xs
rest_whole n xs = grind (arith, common_steps)

-- the same as a step that takes the first part off what is left
pub split_taken : (p : ℕ → Bool) (xs : List ℕ) (k : ℕ) → position p xs ≡ Some k
    → slice_split p xs ≡ take k xs ∷ slice_split p (take (length xs - (k + 1)) (drop (k + 1) xs))
split_taken p xs k e = rw (rest_whole (k + 1) xs) (split_where_some p xs k e)

le_from_not : (a b : ℕ) → ¬ (a < b) → b ≤ a
le_from_not a b denied = omega (arith, denied)

none_at : (b : Bool) (n : ℕ) → ¬ (b ≡ true) → None ≡ cond b (Some n) None
none_at true n denied = absurd (denied refl)
none_at false n denied = refl

one_at : (n k m : ℕ) → n ≤ k → k ≤ n → k < m → Some k ≡ cond (nat_lt n m) (Some n) None
one_at n k m low high within = grind (arith, common_steps)

-- the first byte that passes, as a search of bytes returns it
pub first_at : (p : ℕ → Bool) (xs : List ℕ) (r : Option ℕ) → IsFirstByte p xs r → r ≡ position p xs
first_at p xs None nowhere =
    let n = position_or_len p xs in
    none_at (nat_lt n (length xs)) n (λ less.
    let within = ltb-true n (length xs) less in
    nowhere n (omega arith) within (passes_at_first p xs 0 within))
first_at p xs (Some k) found =
    let n = position_or_len p xs in
    let low : n ≤ k = le_from_not k n (λ less.
    false≢true (sym (fails_before_first p xs k 0 less) ∙ found.1)) in
    let high : k ≤ n = le_from_not n k (λ less.
    found.0.before n (omega arith) less (passes_at_first p xs 0 (omega (arith, less, found.0.high)))) in
    one_at n k (length xs) low high found.0.high

-- what splits a text at its first separator, if there is one
pub ruleset cut_parts = (split_taken, split_where_none)
