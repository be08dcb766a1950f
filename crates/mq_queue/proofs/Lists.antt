-- Lists: what is in a prefix, and what a test finds first.
use Rattle.std.proofs.Common.{◌≡◌, ℕ, ◌<◌, zero, suc, List, [], ◌∷◌, ◌++◌, length, filter, find, slice_get, Some, Bool, true, ◌&&◌, refl, ap, arith}
use Rattle.std.proofs.lemmas.Option.{none-some, same_Some}

-- an element of a prefix is the element of the list
pub slice_get_front : {X : Type 0} (xs ys : List X) (k : ℕ) → k < length xs → slice_get (xs ++ ys) k ≡ slice_get xs k
slice_get_front [] ys k within = absurd (omega arith)
slice_get_front (x ∷ xs) ys zero within = refl
slice_get_front (x ∷ xs) ys (suc k) within = slice_get_front xs ys k (omega arith)

-- a list is split before and after the element at an index
pub cut_at : {X : Type 0} (xs : List X) (k : ℕ) (x : X) → slice_get xs k ≡ Some x → (front : List X) × (rest : List X) × (xs ≡ front ++ x ∷ rest) × (length front ≡ k)
cut_at [] k x there = absurd (none-some x there)
cut_at (y ∷ ys) zero x there = ([], ys, ap (λ z. z ∷ ys) (same_Some y x there), refl)
cut_at (y ∷ ys) (suc k) x there =
    let later = cut_at ys k x there in
    (y ∷ later.0, later.1, ap (λ zs. y ∷ zs) later.2, ap suc later.3)

-- what is found passes
pub found_passes : {X : Type 0} (p : X → Bool) (xs : List X) (x : X) → find p xs ≡ Some x → p x ≡ true
found_passes p [] x found = cc
found_passes p (y ∷ ys) x found = grind (arith, found_passes p ys x)

-- what a test finds among those that pass another is what passes both
pub find-filter : {X : Type 0} (p q : X → Bool) (xs : List X) → find p (filter q xs) ≡ find (λ x. q x && p x) xs
find-filter p q [] = refl
find-filter p q (x ∷ xs) = grind (arith, find-filter p q xs)
