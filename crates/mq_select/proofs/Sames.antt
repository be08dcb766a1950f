-- What a selection picks of pending messages that are all of one type, and of those with others
-- behind them.
use Rattle.std.proofs.Common.{◌≡◌, ◌∙◌, ℕ, ℤ, pos, int_le, int_lt, List, [], ◌∷◌, All, find, filter, fold, map, Option, Some, None, Bool, true, false, not, cond, if◌then◌else◌, refl, sym, ap, subst, arith, ◌++◌}
use Rattle.std.specs.Option.{option_map, option_map_or, option_or}
use Rattle.std.specs.Ordering.{int_eq}
use Rattle.std.proofs.lemmas.Int.{ints}
use Rattle.std.proofs.lemmas.List.Elements.{All-nil, All-cons, All-head, All-tail, All-map, filter-append}
use Rattle.mq_message.specs.declared.selection.Selection.{Selection}
use Rattle.mq_message.specs.declared.selection.Selection.TheVariants.{Any, Exact, Except, UpTo}
use Rattle.mq_message.specs.Selection.{eligible, least_of, lower_of, pick}
use Rattle.mq_select.specs.Same.{picks}
use Rattle.mq_select.proofs.Merging.{int_eq-here, int_eq-same}
use Rattle.std.proofs.lemmas.List.{map-append}
use Rattle.std.proofs.lemmas.List.Folds.{find-append}
use Rattle.std.proofs.lemmas.List.Sums.{fold-append}
use Rattle.mq_message.specs.Laws.{IsLowest}
use Rattle.mq_message.proofs.Lowest.{finds_lowest}
use Rattle.mq_message.proofs.Places.{find_none}
use Rattle.mq_select.specs.Layered.{prefers}

-- the types that are at most the bound
abbrev within : ℕ → List ℤ → List ℤ
within bound ts = filter (λ t. int_le t (pos bound)) ts

-- a lowest type within the bound stays where none is lower
fold_same : (bound : ℕ) (t : ℤ) (o : Option ℤ) (ts : List ℤ) → All (λ u. u ≡ t) ts → (int_le t (pos bound) ≡ true → lower_of o t ≡ o) → fold lower_of o (within bound ts) ≡ o
fold_same bound t o [] h stays = refl
fold_same bound t o (u ∷ ts) h stays =
    let same = All-head (λ v. v ≡ t) u ts h in
    grind (arith, same, stays, fold_same bound t o ts (All-tail (λ v. v ≡ t) u ts h) stays)

least_same : (bound : ℕ) (t : ℤ) (ts : List ℤ) → All (λ u. u ≡ t) ts → least_of bound (t ∷ ts) ≡ cond (int_le t (pos bound)) (Some t) None
least_same bound t ts h =
    grind (arith, ints, fold_same bound t (Some t) ts h (λ e. grind (arith, ints)), fold_same bound t None ts h)

eligible_same : (t : ℤ) (ts : List ℤ) (selection : Selection) → All (λ u. u ≡ t) ts → eligible (t ∷ ts) selection t ≡ picks selection t
eligible_same t ts Any h = refl
eligible_same t ts (Exact wanted) h = refl
eligible_same t ts (Except other) h = refl
eligible_same t ts (UpTo bound) h = rw (least_same bound t ts h) (grind (arith, int_eq-here t))

pub none_found : {X : Type 0} (p : X → Bool) (xs : List X) → All (λ y. p y ≡ false) xs → find p xs ≡ None
none_found p [] h = refl
none_found p (x ∷ xs) h = rw (All-head (λ y. p y ≡ false) x xs h) (none_found p xs (All-tail (λ y. p y ≡ false) x xs h))

-- where all are of one type, a selection picks the first or none
pub same_picks : {X : Type 0} (f : X → ℤ) (t : ℤ) (xs : List X) (selection : Selection) → All (λ x. f x ≡ t) xs → (b : Bool) → picks selection t ≡ b → pick f xs selection ≡ cond b (pick f xs Any) None
same_picks f t [] selection h b e = grind arith
same_picks {X} f t (x ∷ xs) selection h b e =
    let first = All-head (λ y. f y ≡ t) x xs h in
    let rest = All-tail (λ y. f y ≡ t) x xs h in
    let passes : X → Bool = λ y. eligible (map f (x ∷ xs)) selection (f y) in
    let eligible : passes x ≡ picks selection t = rw first (eligible_same t (map f xs) selection (All-map (λ u. u ≡ t) f xs rest)) in
    let none = λ (n : passes x ≡ false). none_found passes xs (λ k d l. rw (rest k d l, ← first) n) in
    grind (arith, e, eligible, none)

-- where no other type is found, all are of this one
pub all_same : {X : Type 0} (f : X → ℤ) (t : ℤ) (xs : List X) → find (λ x. not (int_eq (f x) t)) xs ≡ None → All (λ x. f x ≡ t) xs
all_same f t [] e = All-nil _
all_same f t (x ∷ xs) e =
    All-cons (λ y. f y ≡ t) x xs (int_eq-same (f x) t (grind arith)) (all_same f t xs (grind arith))

pub none_is : {X Y : Type 0} (f : X → Y) (o : Option X) → option_map f o ≡ None → o ≡ None
none_is f o e = grind arith

-- the lower of two lowest types
abbrev lower_both : Option ℤ → Option ℤ → Option ℤ
lower_both None o = o
lower_both (Some t) None = Some t
lower_both (Some t) (Some u) = Some (if int_lt u t then u else t)

one_before : (a : Option ℤ) (z : ℤ) (r : Option ℤ) → lower_both (lower_of a z) r ≡ lower_both a (lower_both (Some z) r)
one_before a z r = grind (arith, ints)

fold_from : (a : Option ℤ) (zs : List ℤ) → fold lower_of a zs ≡ lower_both a (fold lower_of None zs)
fold_from a [] = grind arith
fold_from a (z ∷ zs) = fold_from (lower_of a z) zs ∙ one_before a z (fold lower_of None zs) ∙ ap (lower_both a) (sym (fold_from (Some z) zs))

-- the lowest type of two lists in one
least_append : (bound : ℕ) (ts us : List ℤ) → least_of bound (ts ++ us) ≡ lower_both (least_of bound ts) (least_of bound us)
least_append bound ts us = rw (filter-append, fold-append) (fold_from (least_of bound ts) (within bound us))

-- an earlier message, or a later one where that is preferred
abbrev pub earlier_of : {X : Type 0} → Bool → Option X → Option X → Option X
earlier_of preferred None later = later
earlier_of preferred (Some x) later = if preferred then later else Some x

-- the first message of the lowest type, if there is one
abbrev of_least : {X : Type 0} → (X → ℤ) → Option ℤ → List X → Option X
of_least f o xs = find (λ x. option_map_or (int_eq (f x)) o false) xs

-- messages of one type are of no other
none_apart : {X : Type 0} (f : X → ℤ) (t u : ℤ) (xs : List X) → All (λ x. f x ≡ t) xs → int_eq t u ≡ false → of_least f (Some u) xs ≡ None
none_apart f t u xs same e = none_found (λ x. int_eq (f x) u) xs (λ k d l. rw (same k d l) e)

-- messages of a type above the bound are of no least type within it
none_of : {X : Type 0} (f : X → ℤ) (t : ℤ) (bound : ℕ) (xs : List X) (us : List ℤ) → All (λ x. f x ≡ t) xs → int_le t (pos bound) ≡ false → of_least f (least_of bound us) xs ≡ None
none_of {X} f t bound xs us same e = by (least_of bound us) (finds_lowest bound us)
  where
    by : (o : Option ℤ) → IsLowest bound us o → of_least f o xs ≡ None
    by None h = find_none xs
    by (Some u) h = none_apart f t u xs same (grind (arith, ints, e, h.1))

of_both : {X : Type 0} (f : X → ℤ) (o : Option ℤ) (xs ys : List X) → of_least f o (xs ++ ys) ≡ option_or (of_least f o xs) (of_least f o ys)
of_both f o xs ys = find-append (λ x. option_map_or (int_eq (f x)) o false) xs ys

-- where a type comes before these, and which of both comes first
lowest_first : {X : Type 0} (f : X → ℤ) (t : ℤ) (x : X) (xs ys : List X) (low : Option ℤ) → All (λ y. f y ≡ t) (x ∷ xs) → of_least f (lower_both (Some t) low) ((x ∷ xs) ++ ys) ≡ earlier_of (option_map_or (λ least. int_lt least t) low false) (of_least f (Some t) (x ∷ xs)) (of_least f low ys)
lowest_first f t x xs ys None same = rw (All-head (λ y. f y ≡ t) x xs same, int_eq-here t) refl
lowest_first f t x xs ys (Some u) same =
    let first = All-head (λ y. f y ≡ t) x xs same in
    let apart : int_lt u t ≡ true → int_eq t u ≡ false = λ l. grind (arith, ints, l) in
    let none = λ (l : int_lt u t ≡ true). none_apart f t u (x ∷ xs) same (apart l) in
    grind (arith, first, int_eq-here t, none, of_both f (Some u) (x ∷ xs) ys)

-- what the lowest type within a bound is of both, and which message is its first
bound_picks : {X : Type 0} (f : X → ℤ) (t : ℤ) (bound : ℕ) (xs ys : List X) → All (λ x. f x ≡ t) xs → of_least f (lower_both (least_of bound (map f xs)) (least_of bound (map f ys))) (xs ++ ys) ≡ earlier_of (prefers (UpTo bound) t (map f ys)) (of_least f (least_of bound (map f xs)) xs) (of_least f (least_of bound (map f ys)) ys)
bound_picks f t bound [] ys same = refl
bound_picks {X} f t bound (x ∷ xs) ys same = subst Goal (sym least) (by (int_le t (pos bound)) refl)
  where
    later : Option ℤ
    later = least_of bound (map f ys)

    Goal : Option ℤ → Type 0
    Goal o = of_least f (lower_both o later) ((x ∷ xs) ++ ys) ≡ earlier_of (prefers (UpTo bound) t (map f ys)) (of_least f o (x ∷ xs)) (of_least f later ys)

    least : least_of bound (map f (x ∷ xs)) ≡ cond (int_le t (pos bound)) (Some t) None
    least = rw (All-head (λ y. f y ≡ t) x xs same) (least_same bound t (map f xs) (All-map (λ u. u ≡ t) f xs (All-tail (λ y. f y ≡ t) x xs same)))

    by : (b : Bool) → int_le t (pos bound) ≡ b → Goal (cond b (Some t) None)
    by true e = lowest_first f t x xs ys later same
    by false e = rw (of_both f later (x ∷ xs) ys, none_of f t bound (x ∷ xs) (map f ys) same e, find_none (x ∷ xs)) refl

pub picks_both : {X : Type 0} (f : X → ℤ) (t : ℤ) (xs ys : List X) (selection : Selection) → All (λ x. f x ≡ t) xs → pick f (xs ++ ys) selection ≡ earlier_of (prefers selection t (map f ys)) (pick f xs selection) (pick f ys selection)
picks_both f t xs ys Any same = grind (arith, find-append (λ x. true) xs ys)
picks_both f t xs ys (Exact wanted) same = grind (arith, find-append (λ x. int_eq (f x) wanted) xs ys)
picks_both f t xs ys (Except other) same = grind (arith, find-append (λ x. not (int_eq (f x) other)) xs ys)
picks_both f t xs ys (UpTo bound) same =
    rw (map-append f xs ys, least_append bound (map f xs) (map f ys)) (bound_picks f t bound xs ys same)

-- the place of the earlier message
earlier_place : {X : Type 0} (place_of : X → ℕ) (preferred : Bool) (a b : Option X) → option_map place_of (earlier_of preferred a b) ≡ earlier_of preferred (option_map place_of a) (option_map place_of b)
earlier_place place_of preferred a b = grind arith

-- the place that is found in both
pub found_both : {X : Type 0} (f : ℕ × X → ℤ) (t : ℤ) (xs ys : List (ℕ × X)) (selection : Selection) (preferred : Bool) (a b : Option ℕ) → All (λ x. f x ≡ t) xs → preferred ≡ prefers selection t (map f ys) → a ≡ option_map (λ m. m.0) (pick f xs selection) → b ≡ option_map (λ m. m.0) (pick f ys selection) → earlier_of preferred a b ≡ option_map (λ m. m.0) (pick f (xs ++ ys) selection)
found_both {X} f t xs ys selection preferred a b same is of_xs of_ys =
    let place_of : ℕ × X → ℕ = λ m. m.0 in
    let told = ap (option_map place_of) (picks_both f t xs ys selection same) ∙ earlier_place place_of (prefers selection t (map f ys)) (pick f xs selection) (pick f ys selection) in
    rw (is, of_xs, of_ys) (sym told)
