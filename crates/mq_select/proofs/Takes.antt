-- What the parts of an index are after a message is taken out.
use Rattle.std.proofs.Common.{◌≡◌, ◌∙◌, refl, sym, ap, ℕ, ℤ, ◌<◌, ◌≤◌, ◌==◌, nat_eq, not, cond, Option, Some, None, IsSome, IfSome, List, [], ◌∷◌, find, slice_get, false, true, arith}
use Rattle.std.specs.List.{AllByRecursion}
use Rattle.std.specs.List.Sorted.{IsStrictlySortedBy}
use Rattle.std.specs.Map.{keys_of}
use Rattle.std.specs.Option.{option_map, IsSomeAnd}
use Rattle.std.specs.Ordering.{int_cmp, int_eq}
use Rattle.std.proofs.lemmas.Bool.Decides.{nat_tests}
use Rattle.mq_message.specs.Waiting.{message_at, without}
use Rattle.mq_select.specs.ByType.{first_place, of_type, queue_at, queue_of, unless_empty, IsByType, IsRising}
use Rattle.mq_select.proofs.Changes.{settled, IsSettled}
use Rattle.mq_select.proofs.Firsts.{filter_later, first_is, found_kept, none_kept}
use Rattle.mq_select.proofs.Merging.{filter_swap, int_eq-here, int_eq-same, rising_filter}

-- a message at a place, as a search finds it
found_at : {X : Type 0} (place : ℕ) (all : List (ℕ × X)) (m : X) → message_at place all ≡ Some m → find (λ x. x.0 == place) all ≡ Some (place, m)
found_at place [] m h = cc
found_at place ((n, x) ∷ xs) m h = grind (arith, nat_tests, found_at place xs m)

-- the message at a place is among those of its type
in_queue : {X : Type 0} (type_of : X → ℤ) (place : ℕ) (all : List (ℕ × X)) (m : X) → message_at place all ≡ Some m → message_at place (of_type type_of all (type_of m)) ≡ Some m
in_queue {X} type_of place all m h = ap (option_map (λ (x : ℕ × X). x.1)) (found_kept (λ (x : ℕ × X). int_eq (type_of x.1) (type_of m)) (λ (x : ℕ × X). x.0 == place) all (place, m) (found_at place all m h) (int_eq-here (type_of m)))

-- no message is left out where all places are above
without_below : {X : Type 0} (n place : ℕ) (xs : List (ℕ × X)) → AllByRecursion (λ y. n < y.0) xs → n ≡ place → without place xs ≡ xs
without_below n place [] h e = refl
without_below n place (x ∷ xs) h e = grind (arith, nat_tests, h.0, without_below n place xs h.1)

-- places rise, so the messages of another type stay
others : {X : Type 0} (type_of : X → ℤ) (place : ℕ) (all : List (ℕ × X)) (m : X) (t s : ℤ) → IsRising all → message_at place all ≡ Some m → type_of m ≡ t → int_eq t s ≡ false → of_type type_of (without place all) s ≡ of_type type_of all s
others type_of place [] m t s rising h is other = refl
others type_of place (x ∷ xs) m t s rising h is other = grind (arith, nat_tests, without_below x.0 place xs rising.0, others type_of place xs m t s rising.1)

-- the message at one place, where that at another is left out
at_without : {X : Type 0} (place n : ℕ) (all : List (ℕ × X)) → message_at n (without place all) ≡ cond (nat_eq place n) None (message_at n all)
at_without place n [] = grind arith
at_without place n (x ∷ xs) = grind (arith, nat_tests, at_without place n xs)

-- the first place of a type is that of the first message of its queue
front_is : {X : Type 0} (type_of : X → ℤ) (all : List (ℕ × X)) (t : ℤ) → first_place type_of all t ≡ option_map (λ m. m.0) (slice_get (of_type type_of all t) 0)
front_is {X} type_of all t = ap (option_map (λ (m : ℕ × X). m.0)) (first_is (λ (m : ℕ × X). int_eq (type_of m.1) t) all)

-- what the type at a place determines
pub record IsPlaced {X : Type 0} (type_of : X → ℤ) (all : List (ℕ × X)) (queues : List (ℤ × List (ℕ × X))) (place : ℕ) (t : ℤ) : Type 0 where
  pub message : X
  pub at : message_at place all ≡ Some message
  pub type : type_of message ≡ t
  pub queued : message_at place (queue_of queues t) ≡ Some message

pub placed : {X : Type 0} (type_of : X → ℤ) (all : List (ℕ × X)) (queues : List (ℤ × List (ℕ × X))) (firsts : ℤ → Option ℕ) (types : ℕ → Option ℤ) (older : Option ℤ) (place : ℕ) (t : ℤ) → IsByType type_of all queues firsts types older → types place ≡ Some t → IsPlaced type_of all queues place t
placed {X} type_of all queues firsts types older place t h at = by (message_at place all) refl (sym (h.typed place) ∙ at)
  where
    by : (o : Option X) → message_at place all ≡ o → option_map type_of o ≡ Some t → IsPlaced type_of all queues place t
    by None e g = cc
    by (Some m) e g =
        let same : type_of m ≡ t = cc in
        record { message = m; at = e; type = same; queued = rw (h.parted t, ← same) (in_queue type_of place all m e) }

pub type_there : {X : Type 0} (type_of : X → ℤ) (all : List (ℕ × X)) (queues : List (ℤ × List (ℕ × X))) (firsts : ℤ → Option ℕ) (types : ℕ → Option ℤ) (older : Option ℤ) (place : ℕ) → IsByType type_of all queues firsts types older → IsSome (message_at place all) → IsSome (types place)
type_there type_of all queues firsts types older place h waits = grind (arith, h.typed place)

-- the queues that are left
left_in : {X : Type 0} (type_of : X → ℤ) (all : List (ℕ × X)) (queues new : List (ℤ × List (ℕ × X))) (firsts : ℤ → Option ℕ) (types : ℕ → Option ℤ) (older : Option ℤ) (place : ℕ) (t : ℤ) → IsByType type_of all queues firsts types older → IsPlaced type_of all queues place t → ((s : ℤ) → queue_at new s ≡ cond (int_eq t s) (unless_empty (Some (without place (queue_of queues s)))) (queue_at queues s)) → (s : ℤ) → queue_of new s ≡ of_type type_of (without place all) s
left_in {X} type_of all queues new firsts types older place t h p at s =
    let kept : without place (queue_of queues s) ≡ of_type type_of (without place all) s = ap (without place) (h.parted s) ∙ filter_swap (λ (x : ℕ × X). int_eq (type_of x.1) s) (λ (x : ℕ × X). not (x.0 == place)) all in
    grind (arith, at s, h.parted s, kept, others type_of place all p.message t s h.rising p.at p.type)

-- a message is taken out of the queue of its type
pub taken_of : {X : Type 0} (type_of : X → ℤ) (all : List (ℕ × X)) (queues new : List (ℤ × List (ℕ × X))) (firsts after : ℤ → Option ℕ) (types after_types : ℕ → Option ℤ) (place : ℕ) (t : ℤ) → IsByType type_of all queues firsts types None → IsPlaced type_of all queues place t → IsStrictlySortedBy int_cmp (keys_of new) → ((s : ℤ) → queue_at new s ≡ cond (int_eq t s) (unless_empty (Some (without place (queue_of queues s)))) (queue_at queues s)) → ((s : ℤ) → after s ≡ cond (int_eq t s) (option_map (λ (x : ℕ × X). x.0) (slice_get (queue_of new t) 0)) (firsts s)) → ((n : ℕ) → after_types n ≡ cond (nat_eq place n) None (types n)) → IsSettled type_of (without place all) new after after_types None
taken_of {X} type_of all queues new firsts after types after_types place t h p ordered at front type = settled _ _ _ _ _ _ (record {
  rising = rising_filter (λ (x : ℕ × X). not (x.0 == place)) all h.rising;
  ordered = ordered;
  parted = parted;
  kept = λ s e. grind (arith, e, at s, h.kept s);
  first = placed;
  typed = λ n. grind (arith, type n, h.typed n, at_without place n all);
})
  where
    parted : (s : ℤ) → queue_of new s ≡ of_type type_of (without place all) s
    parted = left_in type_of all queues new firsts types None place t h p at

    placed : (s : ℤ) → after s ≡ first_place type_of (without place all) s
    placed s =
        let old = front_is type_of all s in
        let new = front_is type_of (without place all) s in
        grind (arith, int_eq-same t s, front s, parted s, old, new, h.first s, others type_of place all p.message t s h.rising p.at p.type)

-- what is first in the queue that is left is no earlier than what was
pub later_of : {X : Type 0} (type_of : X → ℤ) (all : List (ℕ × X)) (queues new : List (ℤ × List (ℕ × X))) (firsts : ℤ → Option ℕ) (types : ℕ → Option ℤ) (older : Option ℤ) (place : ℕ) (t : ℤ) (first : Option ℕ) → IsByType type_of all queues firsts types older → IsPlaced type_of all queues place t → ((s : ℤ) → queue_at new s ≡ cond (int_eq t s) (unless_empty (Some (without place (queue_of queues s)))) (queue_at queues s)) → first ≡ option_map (λ (x : ℕ × X). x.0) (slice_get (queue_of new t) 0) → IfSome first (λ n. IsSomeAnd (firsts t) (λ k. k ≤ n))
later_of {X} type_of all queues new firsts types older place t first h p at is =
    by first (firsts t) (rw (left_in type_of all queues new firsts types older place t h p at t, ← front_is type_of (without place all) t) at is) (h.first t)
  where
    by : (first front : Option ℕ) → first ≡ first_place type_of (without place all) t → front ≡ first_place type_of all t → IfSome first (λ n. IsSomeAnd front (λ k. k ≤ n))
    by None front f g = tt
    by (Some n) None f g = grind (arith, f, g, none_kept (λ (x : ℕ × X). not (x.0 == place)) (λ (x : ℕ × X). int_eq (type_of x.1) t) all)
    by (Some n) (Some k) f g = filter_later (λ (x : ℕ × X). not (x.0 == place)) (λ (x : ℕ × X). int_eq (type_of x.1) t) all k n h.rising (sym g) (sym f)

-- the first message
pub first_there : {X : Type 0} (all : List (ℕ × X)) (place : ℕ) → Some place ≡ option_map (λ (x : ℕ × X). x.0) (find (λ _. true) all) → IsSome (message_at place all)
first_there [] place h = cc
first_there (x ∷ xs) place h = grind (arith, nat_tests)

pub first_left : {X : Type 0} (all rest : List (ℕ × X)) (place : ℕ) (m : X) → IsRising all → Some place ≡ option_map (λ (x : ℕ × X). x.0) (find (λ _. true) all) → message_at place all ≡ Some m → rest ≡ without place all → (place, m) ∷ rest ≡ all
first_left [] rest place m rising h at is = cc
first_left ((n, x) ∷ xs) rest place m rising h at is = grind (arith, nat_tests, without_below n place xs rising.0)

pub none_left : {X : Type 0} (all : List (ℕ × X)) → None ≡ option_map (λ (x : ℕ × X). x.0) (find (λ _. true) all) → all ≡ []
none_left [] h = refl
none_left (x ∷ xs) h = cc
