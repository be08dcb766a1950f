-- The first message that passes a test, in a list whose places rise.
use Rattle.std.proofs.Common.{◌≡◌, ◌∙◌, refl, sym, ap, ℕ, ℤ, ◌<◌, ◌≤◌, Bool, true, Option, Some, None, List, [], ◌∷◌, filter, find, slice_get, arith}
use Rattle.std.specs.List.{AllByRecursion}
use Rattle.std.specs.Option.{option_map}
use Rattle.std.specs.Ordering.{int_eq}
use Rattle.mq_select.specs.FirstPlaces.{IsLeastAt}
use Rattle.mq_select.specs.ByType.{IsByType, IsRising}
use Rattle.mq_select.proofs.Merging.{all_filter, int_eq-same, int_eq-here}

found_passes : {X : Type 0} (p : X → Bool) (xs : List X) (x : X) → find p xs ≡ Some x → p x ≡ true
found_passes p [] x h = cc
found_passes p (y ∷ ys) x h = grind (arith, found_passes p ys x)

-- the place of a message that is found is above what all places are above
found_above : {X : Type 0} (k : ℕ) (q : ℕ × X → Bool) (xs : List (ℕ × X)) (n : ℕ) → AllByRecursion (λ y. k < y.0) xs → option_map (λ m. m.0) (find q xs) ≡ Some n → k < n
found_above k q [] n above h = cc
found_above k q (x ∷ xs) n above h = grind (arith, above.0, found_above k q xs n above.1)

-- the first that passes is the first of those that pass
pub first_is : {X : Type 0} (p : X → Bool) (xs : List X) → find p xs ≡ slice_get (filter p xs) 0
first_is p [] = refl
first_is p (x ∷ xs) = grind (arith, first_is p xs)

-- what a weaker test finds first, a stronger one that it passes finds first too
found_too : {X : Type 0} (p q : X → Bool) (xs : List X) (x : X) → ((y : X) → q y ≡ true → p y ≡ true) → find p xs ≡ Some x → q x ≡ true → find q xs ≡ Some x
found_too p q [] x f h g = cc
found_too p q (y ∷ ys) x f h g = grind (arith, f y, found_too p q ys x f)

none_too : {X : Type 0} (p q : X → Bool) (xs : List X) → ((y : X) → q y ≡ true → p y ≡ true) → find p xs ≡ None → find q xs ≡ None
none_too p q [] f h = refl
none_too p q (x ∷ xs) f h = grind (arith, f x, none_too p q xs f)

-- a test that finds none finds none of those that are left
pub none_kept : {X : Type 0} (p q : X → Bool) (xs : List X) → find q xs ≡ None → find q (filter p xs) ≡ None
none_kept p q [] none = refl
none_kept p q (x ∷ xs) none = grind (arith, none_kept p q xs)

-- the first that a stronger test finds is no earlier
found_later : {X : Type 0} (p q : ℕ × X → Bool) (xs : List (ℕ × X)) (k n : ℕ) → IsRising xs → ((z : ℕ × X) → q z ≡ true → p z ≡ true) → option_map (λ m. m.0) (find p xs) ≡ Some k → option_map (λ m. m.0) (find q xs) ≡ Some n → k ≤ n
found_later p q [] k n rising f h g = cc
found_later p q (z ∷ zs) k n rising f h g = grind (arith, f z, found_later p q zs k n rising.1 f, found_above z.0 q zs n rising.0)

-- a message that a test still finds after others are removed is no earlier than the one before
pub filter_later : {X : Type 0} (p q : ℕ × X → Bool) (xs : List (ℕ × X)) (k n : ℕ) → IsRising xs → option_map (λ m. m.0) (find q xs) ≡ Some k → option_map (λ m. m.0) (find q (filter p xs)) ≡ Some n → k ≤ n
filter_later p q [] k n rising h g = cc
filter_later {X} p q (z ∷ zs) k n rising h g =
    let above = all_filter (λ (w : ℕ × X). z.0 < w.0) p zs rising.0 in
    grind (arith, filter_later p q zs k n rising.1, found_above z.0 q (filter p zs) n above)

-- a message found by one test is found by it among those that pass another, if it does
pub found_kept : {X : Type 0} (p q : X → Bool) (xs : List X) (x : X) → find q xs ≡ Some x → p x ≡ true → find q (filter p xs) ≡ Some x
found_kept p q [] x h k = cc
found_kept p q (y ∷ ys) x h k = grind (arith, found_kept p q ys x)

-- the least of the firsts whose types pass is the place of the first message whose type passes
pub least_found : {X : Type 0} (type_of : X → ℤ) (all : List (ℕ × X)) (queues : List (ℤ × List (ℕ × X))) (firsts : ℤ → Option ℕ) (types : ℕ → Option ℤ) (older : Option ℤ) (passes : ℤ → Bool) (r : Option ℕ) → IsByType type_of all queues firsts types older → IsLeastAt passes firsts r → r ≡ option_map (λ m. m.0) (find (λ m. passes (type_of m.1)) all)
least_found {X} type_of all queues firsts types older passes r index least = by (find p all) refl r least
  where
    p : ℕ × X → Bool
    p m = passes (type_of m.1)

    of : ℤ → ℕ × X → Bool
    of t m = int_eq (type_of m.1) t

    within : (t : ℤ) → passes t ≡ true → (m : ℕ × X) → of t m ≡ true → p m ≡ true
    within t ok m e = ap passes (int_eq-same _ _ e) ∙ ok

    here : (x : ℕ × X) → find p all ≡ Some x → (p x ≡ true) × (firsts (type_of x.1) ≡ Some x.0)
    here x h =
        let ok = found_passes p all x h in
        let first = found_too p (of (type_of x.1)) all x (within (type_of x.1) ok) h (int_eq-here (type_of x.1)) in
        (ok, index.first (type_of x.1) ∙ ap (option_map (λ (m : ℕ × X). m.0)) first)

    by : (o : Option (ℕ × X)) → find p all ≡ o → (r : Option ℕ) → IsLeastAt passes firsts r → r ≡ option_map (λ m. m.0) o
    by None e None l = refl
    by None e (Some n) l =
        let none = none_too p (of l.0.0) all (within l.0.0 l.0.1) e in
        let front = sym l.0.2 ∙ index.first l.0.0 in
        cc
    by (Some x) e None l = let k = here x e in cc (l (type_of x.1) k.0)
    by (Some x) e (Some n) l =
        let k = here x e in
        let low = l.1 (type_of x.1) x.0 k.0 k.1 in
        let high = found_later p (of l.0.0) all x.0 n index.rising (within l.0.0 l.0.1) (ap (option_map (λ (m : ℕ × X). m.0)) e) (sym (index.first l.0.0) ∙ l.0.2) in
        ap Some (omega (arith, low, high))
