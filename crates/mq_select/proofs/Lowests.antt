-- The first message of the lowest type within a bound is that of the lowest type of all.
use Rattle.std.proofs.Common.{◌≡◌, ◌∙◌, refl, sym, ap, ℕ, ℤ, pos, int_le, ◌≤ℤ◌, ◌<◌, ◌<ℤ◌, Bool, true, false, cond, Option, Some, None, List, [], ◌∷◌, zero, suc, All, Contains, find, get_or, length, map, if◌then◌else◌, arith}
use Rattle.std.specs.List.{AllByRecursion}
use Rattle.std.specs.List.Sorted.{IsStrictlySortedBy}
use Rattle.std.specs.Map.{keys_of}
use Rattle.std.specs.Option.{option_map, option_map_or}
use Rattle.std.specs.Ordering.{int_cmp, int_eq}
use Rattle.std.specs.declared.cmp.Ordering.TheVariants.{Less}
use Rattle.std.proofs.lemmas.Int.{ints}
use Rattle.std.proofs.lemmas.List.Elements.{All-head, All-tail}
use Rattle.std.proofs.lemmas.List.{length-map}
use Rattle.std.proofs.lemmas.Map.Keys.{sorted_head, sorted_tail}
use Rattle.mq_message.specs.declared.selection.Selection.TheVariants.{UpTo}
use Rattle.mq_message.specs.Laws.{IsLowest}
use Rattle.mq_message.specs.Selection.{least_of, pick}
use Rattle.mq_message.proofs.Lowest.{finds_lowest}
use Rattle.mq_message.proofs.Places.{find_none}
use Rattle.mq_select.specs.ByType.{of_type, queue_of, some_wait, IsByType}
use Rattle.mq_select.proofs.Merging.{at_is, int_eq-here, int_eq-same}

-- no type has a pending message; or this one has, and no lower one
abbrev pub IsLowestType : (ℤ → Bool) → Option ℤ → Type 0
IsLowestType waits None = (t : ℤ) → waits t ≡ false
IsLowestType waits (Some low) = (waits low ≡ true) × ((t : ℤ) → waits t ≡ true → low ≤ℤ t)

-- what holds of each type that has a queue holds of a type that has a pending message
each_key : {X : Type 0} (P : ℤ → Type 0) (queues : List (ℤ × List (ℕ × X))) (t : ℤ) → AllByRecursion P (keys_of queues) → some_wait (queue_of queues t) ≡ true → P t
each_key P [] t all h = cc
each_key P (q ∷ qs) t all h = grind (arith, at_is t q.0, int_eq-same t q.0, all.0, each_key P qs t all.1)

pub lowest_is : {X : Type 0} (queues : List (ℤ × List (ℕ × X))) → IsStrictlySortedBy int_cmp (keys_of queues) → IsLowestType (λ t. some_wait (queue_of queues t)) (option_map (λ q. q.0) (find (λ q. some_wait q.1) queues))
lowest_is [] sorted = λ t. refl
lowest_is {X} (q ∷ qs) sorted = by (some_wait q.1) refl (option_map (λ p. p.0) (find (λ p. some_wait p.1) qs)) refl (lowest_is qs (sorted_tail int_cmp q.0 (keys_of qs) sorted))
  where
    waits : ℤ → Bool
    waits t = some_wait (queue_of (q ∷ qs) t)

    above : (t : ℤ) → some_wait (queue_of qs t) ≡ true → q.0 <ℤ t
    above t h =
        let less = each_key (λ (k : ℤ). int_cmp q.0 k ≡ Less) qs t (sorted_head int_cmp q.0 (keys_of qs) sorted) h in
        grind (arith, ints, less)

    low : (t : ℤ) → waits t ≡ true → q.0 ≤ℤ t
    low t h = grind (arith, ints, at_is t q.0, int_eq-same t q.0, above t)

    -- with its first queue empty
    same : some_wait q.1 ≡ false → (t : ℤ) → waits t ≡ some_wait (queue_of qs t)
    same none t = grind (arith, ints, at_is t q.0, int_eq-same t q.0, above t)

    by : (b : Bool) → some_wait q.1 ≡ b → (o : Option ℤ) → option_map (λ p. p.0) (find (λ p. some_wait p.1) qs) ≡ o → IsLowestType (λ t. some_wait (queue_of qs t)) (option_map (λ p. p.0) (find (λ p. some_wait p.1) qs)) → IsLowestType waits (option_map (λ p. p.0) (cond b (Some q) (find (λ p. some_wait p.1) qs)))
    by true e o f r = (rw (at_is q.0 q.0, int_eq-here q.0) e, low)
    by false e None f r = rw f (let s = rw f at r in λ t. same e t ∙ s t)
    by false e (Some low) f r = rw f (let s = rw f at r in (same e low ∙ s.0, λ t h. s.1 t (sym (same e t) ∙ h)))

-- what holds of each message's type holds of a type that has a pending message
each_waiting : {X : Type 0} (P : ℤ → Type 0) (type_of : X → ℤ) (all : List (ℕ × X)) (t : ℤ) → All P (map (λ m. type_of m.1) all) → some_wait (of_type type_of all t) ≡ true → P t
each_waiting P type_of [] t every h = cc
each_waiting P type_of (x ∷ xs) t every h =
    let first = All-head P (type_of x.1) (map (λ m. type_of m.1) xs) every in
    grind (arith, int_eq-same (type_of x.1) t, first, each_waiting P type_of xs t (All-tail P (type_of x.1) (map (λ m. type_of m.1) xs) every))

-- the type of a message has a pending message
waits_at : {X : Type 0} (type_of : X → ℤ) (all : List (ℕ × X)) (t : ℤ) (k : ℕ) → k < length all → get_or (map (λ m. type_of m.1) all) k t ≡ t → some_wait (of_type type_of all t) ≡ true
waits_at type_of [] t k l e = absurd (omega arith)
waits_at type_of (x ∷ xs) t zero l e = rw (e, int_eq-here t) refl
waits_at type_of (x ∷ xs) t (suc k) l e = grind (arith, waits_at type_of xs t k (omega arith) e)

-- the lowest type of all, if it is within a bound
abbrev pub bounded : ℕ → Option ℤ → Option ℤ
bounded bound None = None
bounded bound (Some low) = if int_le low (pos bound) then Some low else None

-- the lowest type within a bound is that of the lowest of the queues, if it is within it
pub least_found : {X : Type 0} (type_of : X → ℤ) (all : List (ℕ × X)) (queues : List (ℤ × List (ℕ × X))) (firsts : ℤ → Option ℕ) (types : ℕ → Option ℤ) (older : Option ℤ) (bound : ℕ) (low : Option ℤ) → IsByType type_of all queues firsts types older → low ≡ option_map (λ q. q.0) (find (λ q. some_wait q.1) queues) → least_of bound (map (λ m. type_of m.1) all) ≡ bounded bound low
least_found {X} type_of all queues firsts places older bound low index is = by (least_of bound types) (finds_lowest bound types) low (rw is (lowest_is queues index.ordered))
  where
    types : List ℤ
    types = map (λ (m : ℕ × X). type_of m.1) all

    waits : ℤ → Bool
    waits t = some_wait (queue_of queues t)

    each : (P : ℤ → Type 0) (t : ℤ) → All P types → waits t ≡ true → P t
    each P t every h = each_waiting P type_of all t every (rw (index.parted t) at h)

    among : (t : ℤ) → Contains types t → waits t ≡ true
    among t h = rw (index.parted t) (waits_at type_of all t h.0 (omega (arith, h.1, length-map all (λ m. type_of m.1))) h.2)

    by : (o : Option ℤ) → IsLowest bound types o → (low : Option ℤ) → IsLowestType waits low → o ≡ bounded bound low
    by None h None l = refl
    by None h (Some low) l = grind (arith, ints, each (λ t. pos bound <ℤ t) low h l.0)
    by (Some least) h None l = cc (among least h.0, l least)
    by (Some least) h (Some low) l =
        let below = l.1 least (among least h.0) in
        let least_below = each (λ t. t ≤ℤ pos bound → least ≤ℤ t) low h.2 l.0 in
        grind (arith, ints, below, least_below, h.1)

-- the place of the first message of a type, if there is one
abbrev pub place_of_type : (ℤ → Option ℕ) → Option ℤ → Option ℕ
place_of_type firsts None = None
place_of_type firsts (Some t) = firsts t

pub place_found : {X : Type 0} (type_of : X → ℤ) (all : List (ℕ × X)) (queues : List (ℤ × List (ℕ × X))) (firsts : ℤ → Option ℕ) (types : ℕ → Option ℤ) (older : Option ℤ) (bound : ℕ) (low : Option ℤ) → IsByType type_of all queues firsts types older → low ≡ least_of bound (map (λ m. type_of m.1) all) → place_of_type firsts low ≡ option_map (λ m. m.0) (pick (λ m. type_of m.1) all (UpTo bound))
place_found {X} type_of all queues firsts types older bound low index is = by low ∙ ap (λ o. option_map (λ (m : ℕ × X). m.0) (find (λ m. option_map_or (int_eq (type_of m.1)) o false) all)) is
  where
    by : (o : Option ℤ) → place_of_type firsts o ≡ option_map (λ m. m.0) (find (λ (m : ℕ × X). option_map_or (int_eq (type_of m.1)) o false) all)
    by None = ap (option_map (λ (m : ℕ × X). m.0)) (sym (find_none all))
    by (Some t) = index.first t
