-- The first message of the lowest type within a bound is found by one reading of the list.
use Rattle.std.proofs.Common.{◌≡◌, ℕ, ℤ, pos, ◌<ℤ◌, ◌≤ℤ◌, List, [], ◌∷◌, Contains, find, map, Option, Some, None, Bool, true, false, cond, refl, sym, ap, ◌∙◌, subst, arith}
use Rattle.std.specs.Option.{option_map, option_map_or}
use Rattle.std.specs.Ordering.{int_eq}
use Rattle.std.proofs.lemmas.Int.{ints}
use Rattle.std.proofs.lemmas.List.{get_or-map, length-map}
use Rattle.std.proofs.lemmas.List.Elements.{All-map, All-contains}
use Rattle.mq_message.specs.declared.selection.Selection.TheVariants.{UpTo}
use Rattle.mq_message.specs.Selection.{least_of, pick}
use Rattle.mq_select.specs.Lowest.{lower_first_of, first_lowest}
use Rattle.mq_message.specs.Laws.{IsLowest}
use Rattle.mq_message.proofs.Lowest.{IsKept, kept_of_all, finds_lowest}
use Rattle.mq_message.proofs.Places.{find_none}

same_type : (a b : ℤ) → a ≤ℤ b → b ≤ℤ a → a ≡ b
same_type a b p q = first_of (omega (arith, ints), grind (arith, ints))

-- one reading finds what the definition of a selection picks
first_is : {X : Type 0} (bound : ℕ) (xs : List (ℤ × X)) → first_lowest bound xs ≡ find (λ m. option_map_or (int_eq m.0) (least_of bound (map (λ m. m.0) xs)) false) xs
first_is {X} bound xs = by (first_lowest bound xs) (kept_of_all (λ (m : ℤ × X). m.0) lower_first_of (λ x. refl) (λ a x. refl) bound xs) (least_of bound types) (finds_lowest bound types)
  where
    types : List ℤ
    types = map (λ (m : ℤ × X). m.0) xs

    type_in : (f : ℤ × X) → Contains xs f → Contains types f.0
    type_in f h = (h.0, omega (arith, length-map xs (λ (m : ℤ × X). m.0), h.1), get_or-map (λ (m : ℤ × X). m.0) xs h.0 f f.0 h.1 ∙ ap (λ (m : ℤ × X). m.0) h.2)

    by : (o : Option (ℤ × X)) → IsKept (λ (m : ℤ × X). m.0) lower_first_of (λ x. refl) (λ a x. refl) bound xs o → (l : Option ℤ) → IsLowest bound types l
        → o ≡ find (λ m. option_map_or (int_eq m.0) l false) xs
    by None h None k = sym (find_none xs)
    by None h (Some l) k = absurd (omega (arith, ints, k.1, All-contains (λ t. pos bound <ℤ t) types l (All-map (λ t. pos bound <ℤ t) (λ (m : ℤ × X). m.0) xs h) k.0))
    by (Some f) h None k = absurd (omega (arith, ints, h.within, All-contains (λ t. pos bound <ℤ t) types f.0 k (type_in f h.there)))
    by (Some f) h (Some l) k =
        let under : l ≤ℤ f.0 = All-contains (λ t. t ≤ℤ pos bound → l ≤ℤ t) types f.0 k.2 (type_in f h.there) h.within in
        let over : f.0 ≤ℤ l = All-contains (λ t. t ≤ℤ pos bound → f.0 ≤ℤ t) types l (All-map (λ t. t ≤ℤ pos bound → f.0 ≤ℤ t) (λ (m : ℤ × X). m.0) xs h.lowest) k.0 k.1 in
        sym (subst (λ t. find (λ m. int_eq m.0 t) xs ≡ Some f) (same_type f.0 l over under) h.found)

-- a search in the heads of the messages
find_head : {M X : Type 0} (head : M → ℤ × X) (p : ℤ → Bool) (xs : List M) → option_map (λ m. m.1) (find (λ m. p m.0) (map head xs)) ≡ option_map (λ m. (head m).1) (find (λ m. p (head m).0) xs)
find_head head p [] = refl
find_head {M} {X} head p (x ∷ xs) = by (p (head x).0) (find_head head p xs)
  where
    by : (b : Bool) → option_map (λ m. m.1) (find (λ m. p m.0) (map head xs)) ≡ option_map (λ m. (head m).1) (find (λ m. p (head m).0) xs) → option_map (λ m. m.1) (cond b (Some (head x)) (find (λ m. p m.0) (map head xs))) ≡ option_map (λ m. (head m).1) (cond b (Some x) (find (λ m. p (head m).0) xs))
    by true h = refl
    by false h = h

types_of : {M X : Type 0} (head : M → ℤ × X) (xs : List M) → map (λ m. m.0) (map head xs) ≡ map (λ m. (head m).0) xs
types_of head [] = refl
types_of head (x ∷ xs) = ap (λ ts. (head x).0 ∷ ts) (types_of head xs)

pub up_to_is : {X : Type 0} (type_of : ℕ × X → ℤ) (bound : ℕ) (xs : List (ℕ × X)) → option_map (λ m. m.1) (first_lowest bound (map (λ m. (type_of m, m.0)) xs)) ≡ option_map (λ m. m.0) (pick type_of xs (UpTo bound))
up_to_is {X} type_of bound xs =
    let head : ℕ × X → ℤ × ℕ = λ m. (type_of m, m.0) in
    ap (option_map (λ (m : ℤ × ℕ). m.1)) (first_is bound (map head xs))
    ∙ find_head head (λ t. option_map_or (int_eq t) (least_of bound (map (λ m. m.0) (map head xs))) false) xs
    ∙ ap (λ ts. option_map (λ m. m.0) (find (λ m. option_map_or (int_eq (type_of m)) (least_of bound ts) false) xs)) (types_of head xs)
