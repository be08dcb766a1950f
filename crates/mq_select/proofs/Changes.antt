-- What the parts of an index are after a message is put at the end, taken out, or prepared for.
use Rattle.std.proofs.Common.{◌≡◌, ◌∙◌, refl, ℕ, ℤ, ◌<◌, ◌≤◌, nat_eq, Bool, false, cond, Option, Some, None, List, [], ◌∷◌, ◌++◌, arith, length-append}
use Rattle.std.specs.List.{AllByRecursion}
use Rattle.std.specs.List.Sorted.{IsStrictlySortedBy}
use Rattle.std.specs.Map.{keys_of}
use Rattle.std.specs.Option.{option_or}
use Rattle.std.specs.Ordering.{int_cmp, int_eq}
use Rattle.std.proofs.lemmas.Bool.Decides.{nat_tests}
use Rattle.std.proofs.lemmas.List.{append-nil}
use Rattle.std.proofs.lemmas.List.Elements.{filter-append}
use Rattle.std.proofs.lemmas.List.Folds.{find-append}
use Rattle.mq_message.specs.Waiting.{message_at}
use Rattle.mq_select.specs.ByType.{first_place, merged, of_type, queue_at, queue_of, unless_empty, IsByType}
use Rattle.mq_select.proofs.Merging.{at_is, int_eq-here, int_eq-same, merged_is, rising_append}

-- the index of the messages of its queues, merged, which are these
abbrev pub IsSettled : {X : Type 0} → (X → ℤ) → List (ℕ × X) → List (ℤ × List (ℕ × X)) → (ℤ → Option ℕ) → (ℕ → Option ℤ) → Option ℤ → Type 0
IsSettled type_of all queues firsts types prepared =
    (merged queues ≡ all) × IsByType type_of (merged queues) queues firsts types prepared

-- an index is one of the messages of its queues, merged
pub settled : {X : Type 0} (type_of : X → ℤ) (all : List (ℕ × X)) (queues : List (ℤ × List (ℕ × X))) (firsts : ℤ → Option ℕ) (types : ℕ → Option ℤ) (prepared : Option ℤ) → IsByType type_of all queues firsts types prepared → IsSettled type_of all queues firsts types prepared
settled type_of all queues firsts types prepared h =
    let is = merged_is type_of queues all h.rising h.ordered h.parted in
    (is, rw is h)

-- an empty queue is removed
pub forgotten : {X : Type 0} (type_of : X → ℤ) (all : List (ℕ × X)) (queues new : List (ℤ × List (ℕ × X))) (firsts : ℤ → Option ℕ) (types : ℕ → Option ℤ) (t : ℤ) → IsByType type_of all queues firsts types (Some t) → IsStrictlySortedBy int_cmp (keys_of new) → ((s : ℤ) → queue_at new s ≡ cond (int_eq t s) (unless_empty (queue_at queues s)) (queue_at queues s)) → IsSettled type_of all new firsts types None
forgotten type_of all queues new firsts types t h ordered at = settled _ _ _ _ _ _ (record {
  rising = h.rising;
  ordered = ordered;
  parted = λ s. grind (arith, at s, h.parted s);
  kept = λ s e. grind (arith, e, at s, h.kept s, int_eq-here t);
  first = h.first;
  typed = h.typed;
})

-- there is a queue of one more type, and the older type's is removed if it is empty
pub prepared : {X : Type 0} (type_of : X → ℤ) (all : List (ℕ × X)) (queues made new : List (ℤ × List (ℕ × X))) (firsts after : ℤ → Option ℕ) (types after_types : ℕ → Option ℤ) (older : Option ℤ) (t : ℤ) → IsByType type_of all queues firsts types older → IsStrictlySortedBy int_cmp (keys_of new) → ((s : ℤ) → queue_at made s ≡ cond (int_eq t s) (Some (queue_of queues s)) (queue_at queues s)) → ((s : ℤ) → queue_of new s ≡ queue_of made s) → ((s : ℤ) → queue_at new s ≡ Some [] → int_eq t s ≡ false → (queue_at made s ≡ Some []) × (older ≡ Some s → ⊥)) → ((s : ℤ) → after s ≡ firsts s) → ((n : ℕ) → after_types n ≡ types n) → IsSettled type_of all new after after_types (Some t)
prepared type_of all queues made new firsts after types after_types older t h ordered at same empty front type = settled _ _ _ _ _ _ (record {
  rising = h.rising;
  ordered = ordered;
  parted = λ s. grind (arith, same s, at s, h.parted s);
  kept = λ s e. grind (arith, empty s e, at s, h.kept s, int_eq-same t s);
  first = λ s. front s ∙ h.first s;
  typed = λ n. type n ∙ h.typed n;
})

-- the message at a place, with one more behind
at_last : {X : Type 0} (all : List (ℕ × X)) (place n : ℕ) (m : X) → AllByRecursion (λ x. x.0 < place) all → message_at n (all ++ (place, m) ∷ []) ≡ cond (nat_eq place n) (Some m) (message_at n all)
at_last [] place n m above = grind (arith, nat_tests)
at_last (x ∷ xs) place n m above = grind (arith, nat_tests, above.0, at_last xs place n m above.1)

-- a message is put at the end
pub put_last : {X : Type 0} (type_of : X → ℤ) (all : List (ℕ × X)) (queues new : List (ℤ × List (ℕ × X))) (firsts after : ℤ → Option ℕ) (types after_types : ℕ → Option ℤ) (t : ℤ) (place : ℕ) (m : X) → IsByType type_of all queues firsts types (Some t) → type_of m ≡ t → AllByRecursion (λ x. x.0 < place) all → IsStrictlySortedBy int_cmp (keys_of new) → ((s : ℤ) → queue_at new s ≡ cond (int_eq t s) (Some (queue_of queues s ++ (place, m) ∷ [])) (queue_at queues s)) → ((s : ℤ) → after s ≡ option_or (firsts s) (cond (int_eq t s) (Some place) None)) → ((n : ℕ) → after_types n ≡ cond (nat_eq place n) (Some t) (types n)) → IsSettled type_of (all ++ (place, m) ∷ []) new after after_types None
put_last {X} type_of all queues new firsts after types after_types t place m h is above ordered at front type = settled _ _ _ _ _ _ (record {
  rising = rising_append all (place, m) h.rising above;
  ordered = ordered;
  parted = λ s. grind (arith, is, at s, h.parted s, filter-append (of s) all new_message, append-nil (of_type type_of all s));
  kept = λ s e. grind (arith, e, at s, h.kept s, int_eq-here t, length-append (queue_of queues s) new_message);
  first = λ s. grind (arith, is, front s, h.first s, find-append (of s) all new_message);
  typed = λ n. grind (arith, is, type n, h.typed n, at_last all place n m above);
})
  where
    new_message : List (ℕ × X)
    new_message = (place, m) ∷ []

    of : ℤ → ℕ × X → Bool
    of s x = int_eq (type_of x.1) s

-- the index stays where the tables have the same entries
pub same_index : {X : Type 0} (type_of : X → ℤ) (all : List (ℕ × X)) (queues : List (ℤ × List (ℕ × X))) (firsts after : ℤ → Option ℕ) (types after_types : ℕ → Option ℤ) (older : Option ℤ) → IsByType type_of all queues firsts types older → ((s : ℤ) → after s ≡ firsts s) → ((n : ℕ) → after_types n ≡ types n) → IsByType type_of all queues after after_types older
same_index type_of all queues firsts after types after_types older h front type = record {
  rising = h.rising;
  ordered = h.ordered;
  parted = h.parted;
  kept = h.kept;
  first = λ s. front s ∙ h.first s;
  typed = λ n. type n ∙ h.typed n;
}

pub front_below : {X : Type 0} (type_of : X → ℤ) (all : List (ℕ × X)) (place : ℕ) (t : ℤ) (n : ℕ) → AllByRecursion (λ x. x.0 < place) all → first_place type_of all t ≡ Some n → n ≤ place
front_below type_of [] place t n above h = cc
front_below type_of (x ∷ xs) place t n above h = grind (arith, above.0, front_below type_of xs place t n above.1)

-- where no message is pending and nothing is prepared there is no queue
pub no_queues : {X : Type 0} (type_of : X → ℤ) (all : List (ℕ × X)) (queues : List (ℤ × List (ℕ × X))) (firsts : ℤ → Option ℕ) (types : ℕ → Option ℤ) → IsByType type_of all queues firsts types None → all ≡ [] → queues ≡ []
no_queues type_of all [] firsts types h none = refl
no_queues type_of all (q ∷ qs) firsts types h none =
    let parted = rw none at (h.parted q.0) in
    grind (arith, at_is q.0 q.0, int_eq-here q.0, h.kept q.0, parted)
