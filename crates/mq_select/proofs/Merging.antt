-- Messages in the order of their places, parted and merged again.
use Rattle.std.proofs.Common.{◌≡◌, ◌∙◌, refl, sym, ap, ℕ, ℤ, ◌<◌, Bool, true, false, not, Option, List, [], ◌∷◌, ◌++◌, filter, arith}
use Rattle.std.specs.List.{AllByRecursion}
use Rattle.std.specs.List.Sorted.{IsStrictlySortedBy}
use Rattle.std.specs.Map.{keys_of}
use Rattle.std.specs.BTreeMap.{is_at}
use Rattle.std.specs.Ordering.{int_cmp, int_eq}
use Rattle.std.specs.Option.{unwrap_or}
use Rattle.std.proofs.lemmas.Bool.{cond_both, not-true}
use Rattle.std.proofs.lemmas.Bool.Decides.{Decides-int_eq, nat_tests}
use Rattle.std.proofs.lemmas.Cmp.{eq_by_cmp_equiv, int_cmp_total}
use Rattle.std.proofs.lemmas.Int.{ints}
use Rattle.std.proofs.lemmas.List.Elements.{All-filter, All-from_recursion, All-push, All-weaker, recursion_from_All}
use Rattle.std.proofs.lemmas.Map.{lookup-none}
use Rattle.std.proofs.lemmas.Map.Entries.{none_past_head}
use Rattle.std.proofs.lemmas.Map.Keys.{sorted_tail, IsDistinct-from_sorted}
use Rattle.mq_select.specs.ByType.{placed_in, merge, merged, queue_of, of_type, IsRising}

pub int_eq-same : (a b : ℤ) → int_eq a b ≡ true → a ≡ b
int_eq-same a b e = (Decides-int_eq a b).0 e

pub int_eq-here : (a : ℤ) → int_eq a a ≡ true
int_eq-here a = (Decides-int_eq a a).1 refl

-- the test of a tree's look-up
pub at_is : (t k : ℤ) → is_at (int_cmp t) k ≡ int_eq t k
at_is t k = grind (arith, ints)

pub weaker : {X : Type 0} (P Q : X → Type 0) (xs : List X) → ((x : X) → P x → Q x) → AllByRecursion P xs → AllByRecursion Q xs
weaker P Q xs f h = recursion_from_All Q xs (All-weaker P Q f xs (All-from_recursion P xs h))

pub all_filter : {X : Type 0} (P : X → Type 0) (p : X → Bool) (xs : List X) → AllByRecursion P xs → AllByRecursion P (filter p xs)
all_filter P p xs h = recursion_from_All P (filter p xs) (All-filter p P xs (All-from_recursion P xs h))

all_append : {X : Type 0} (P : X → Type 0) (xs : List X) (y : X) → AllByRecursion P xs → P y → AllByRecursion P (xs ++ y ∷ [])
all_append P xs y h here = recursion_from_All P (xs ++ y ∷ []) (All-push P xs y (All-from_recursion P xs h) here)

pub rising_filter : {X : Type 0} (p : ℕ × X → Bool) (xs : List (ℕ × X)) → IsRising xs → IsRising (filter p xs)
rising_filter p [] h = tt
rising_filter {X} p (x ∷ xs) h =
    let rest = rising_filter p xs h.1 in
    cond_both (p x) _ _ IsRising (λ _. (all_filter (λ (y : ℕ × X). x.0 < y.0) p xs h.0, rest)) (λ _. rest)

pub rising_append : {X : Type 0} (xs : List (ℕ × X)) (y : ℕ × X) → IsRising xs → AllByRecursion (λ x. x.0 < y.0) xs → IsRising (xs ++ y ∷ [])
rising_append [] y h above = (tt, tt)
rising_append {X} (x ∷ xs) y h above = (all_append (λ (z : ℕ × X). x.0 < z.0) xs y h.0 above.0, rising_append xs y h.1 above.1)

-- what a weaker test keeps, a stronger one finds again
pub filter_kept : {X : Type 0} (p q : X → Bool) (xs : List X) → ((x : X) → q x ≡ true → p x ≡ true) → filter q (filter p xs) ≡ filter q xs
filter_kept p q [] h = refl
filter_kept p q (x ∷ xs) h = grind (arith, h x, filter_kept p q xs h)

pub filter_gone : {X : Type 0} (p q : X → Bool) (xs : List X) → ((x : X) → p x ≡ true → q x ≡ false) → filter q (filter p xs) ≡ []
filter_gone p q [] h = refl
filter_gone p q (x ∷ xs) h = grind (arith, h x, filter_gone p q xs h)

pub filter_swap : {X : Type 0} (p q : X → Bool) (xs : List X) → filter q (filter p xs) ≡ filter p (filter q xs)
filter_swap p q [] = refl
filter_swap p q (x ∷ xs) = grind (arith, filter_swap p q xs)

-- what is below all others comes first
placed_first : {X : Type 0} (x : ℕ × X) (xs : List (ℕ × X)) → AllByRecursion (λ y. x.0 < y.0) xs → placed_in x xs ≡ x ∷ xs
placed_first x [] h = refl
placed_first x (y ∷ ys) h = grind (arith, nat_tests, h.0)

merge_first : {X : Type 0} (x : ℕ × X) (xs ys : List (ℕ × X)) → AllByRecursion (λ y. x.0 < y.0) xs → merge xs (x ∷ ys) ≡ x ∷ merge xs ys
merge_first x [] ys h = refl
merge_first x (y ∷ xs) ys h = rw (merge_first x xs ys h.1) (grind (arith, nat_tests, h.0))

-- the two parts of a rising list are that list again
merge_parts : {X : Type 0} (p : ℕ × X → Bool) (xs : List (ℕ × X)) → IsRising xs → merge (filter p xs) (filter (λ x. not (p x)) xs) ≡ xs
merge_parts p [] h = refl
merge_parts {X} p (x ∷ xs) h =
    let later = all_filter (λ (y : ℕ × X). x.0 < y.0) p xs h.0 in
    grind (arith, merge_parts p xs h.1, placed_first x xs h.0, merge_first x (filter p xs) (filter (λ y. not (p y)) xs) later)

none_left : {X : Type 0} (type_of : X → ℤ) (all : List (ℕ × X)) → ((t : ℤ) → [] ≡ of_type type_of all t) → [] ≡ all
none_left type_of [] h = refl
none_left {X} type_of (x ∷ xs) h = let clash = rw (int_eq-here (type_of x.1)) at (h (type_of x.1)) in cc

-- messages in rising places are those of their queues, merged
pub merged_is : {X : Type 0} (type_of : X → ℤ) (queues : List (ℤ × List (ℕ × X))) (all : List (ℕ × X)) → IsRising all → IsStrictlySortedBy int_cmp (keys_of queues) → ((t : ℤ) → queue_of queues t ≡ of_type type_of all t) → merged queues ≡ all
merged_is type_of [] all rising sorted parted = none_left type_of all parted
merged_is {X} type_of (q ∷ qs) all rising sorted parted =
    ap (λ (ys : List (ℕ × X)). merge ys (merged qs)) first
    ∙ ap (merge (of_type type_of all q.0)) (merged_is type_of qs rest (rising_filter other all rising) (sorted_tail int_cmp q.0 (keys_of qs) sorted) parts)
    ∙ merge_parts (λ (m : ℕ × X). int_eq (type_of m.1) q.0) all rising
  where
    other : ℕ × X → Bool
    other m = not (int_eq (type_of m.1) q.0)

    rest : List (ℕ × X)
    rest = filter (λ m. not (int_eq (type_of m.1) q.0)) all

    first : q.1 ≡ of_type type_of all q.0
    first = rw (at_is q.0 q.0, int_eq-here q.0) at (parted q.0)

    absent : (t : ℤ) → t ≡ q.0 → queue_of qs t ≡ []
    absent t e =
        let none = none_past_head (eq_by_cmp_equiv int_cmp_total) t q qs (IsDistinct-from_sorted int_cmp (keys_of (q ∷ qs)) sorted) (at_is t q.0 ∙ (Decides-int_eq t q.0).1 e) in
        ap (λ (o : Option (List (ℕ × X))). unwrap_or o []) (lookup-none (is_at (int_cmp t)) qs none)

    stays : (t : ℤ) → int_eq t q.0 ≡ false → (m : ℕ × X) → int_eq (type_of m.1) t ≡ true → other m ≡ true
    stays t apart m e =
        let same : type_of m.1 ≡ t = int_eq-same _ _ e in
        rw (same, apart) refl

    parts : (t : ℤ) → queue_of qs t ≡ of_type type_of rest t
    parts t = by (int_eq t q.0) refl
      where
        by : (b : Bool) → int_eq t q.0 ≡ b → queue_of qs t ≡ of_type type_of rest t
        by true e =
            let same : t ≡ q.0 = int_eq-same t q.0 e in
            absent t same ∙ sym (rw same (filter_gone other (λ m. int_eq (type_of m.1) q.0) all (λ m. not-true _)))
        by false e =
            let whole = rw (at_is t q.0, e) at (parted t) in
            whole ∙ sym (filter_kept other (λ m. int_eq (type_of m.1) t) all (stays t e))
