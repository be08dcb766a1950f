-- The entries of a heap, by index and by type: the least of them, and what an edit leaves.
use Rattle.std.proofs.Common.{ℤ, pos, List, [], ◌∷◌, ◌++◌, length, length-append, get_or, position, slice_get, Option, Some, None, Bool, true, false, not, cond, suc, zero, refl, sym, ap, ◌∙◌, ◌≡◌, ◌≢◌, ℕ, ◌-◌, ◌/◌, ◌*◌, ◌<◌, ◌≤◌, arith}
use Rattle.std.proofs.Math.Logic.{⊎_elim}
use Rattle.std.specs.List.{IsDistinct}
use Rattle.std.specs.Map.{keys_of, lookup}
use Rattle.std.specs.Option.{IsSomeAnd, IfSome, is_some}
use Rattle.std.specs.Ordering.{int_eq}
use Rattle.std.proofs.lemmas.Bool.{cases_eq, cases_lt}
use Rattle.std.proofs.lemmas.Bool.Decides.{Decides-int_eq}
use Rattle.std.proofs.lemmas.Cmp.{int_eq_equiv}
use Rattle.std.proofs.lemmas.Int.{ints}
use Rattle.std.proofs.lemmas.List.{get_or_append_left, get_or_push}
use Rattle.std.proofs.lemmas.List.Quantifiers.{position-Some}
use Rattle.std.proofs.lemmas.Map.Entries.{place_from_lookup, lookup_from_place, length-keys_of}
use Rattle.std.proofs.lemmas.Map.Keys.{apart_from_distinct}
use Rattle.std.proofs.lemmas.Option.{slice_get-get_or, slice_get_within, get_or_from_slice_get}
use Rattle.indexmap.specs.IndexMap.{IndexMap, get, Updates, IsUnique, set_value_at, with_value_at}
use Rattle.indexmap.proofs.CallerLemmas.{updates-with_value_at}
use Rattle.mq_select.specs.FirstPlaces.{IsLeastAt}
use Rattle.mq_select.specs.Heap.{place_at, type_at, IsHeap, IsLeastEntry, IsLeastUnder, IsHeapDownTo}
use Rattle.mq_select.proofs.Merging.{int_eq-same}

-- what holds at the entries down to those below one holds of all below them
climb : (es : List (ℤ × ℕ)) (c from : ℕ) → IsHeap es → ((i : ℕ) → from ≤ i → i ≤ 2 * from → i < length es → place_at es c ≤ place_at es i) → (fuel i : ℕ) → i ≤ fuel → from ≤ i → i < length es → place_at es c ≤ place_at es i
climb es c from heap near zero i l p m = near i p (omega arith) m
climb es c from heap near (suc fuel) i l p m =
    ⊎_elim (λ (far : 2 * from < i).
    let up = climb es c from heap near fuel ((i - 1) / 2) (omega arith) (omega arith) (omega arith) in
    let step = heap ((i - 1) / 2) i (omega arith, omega arith) m in
    omega (arith, up, step))
    (λ (e : i ≤ 2 * from). near i p e m)
    (cases_lt (2 * from) i)

pub root_least : (es : List (ℤ × ℕ)) (passes : ℤ → Bool) → IsHeap es → 0 < length es → passes (type_at es 0) ≡ true → IsLeastEntry passes es (Some 0)
root_least es passes heap l ok =
    (l, ok, λ k m _. climb es 0 0 heap (λ i p e n. grind arith) k k (omega arith) (omega arith) m)

get_or-keys : (es : List (ℤ × ℕ)) (i : ℕ) → get_or (keys_of es) i (pos 0) ≡ type_at es i
get_or-keys [] i = refl
get_or-keys (e ∷ es) zero = refl
get_or-keys (e ∷ es) (suc i) = get_or-keys es i

-- where the first entry is of a type, no other is
alone : (es : List (ℤ × ℕ)) (t : ℤ) (k : ℕ) → IsDistinct int_eq (keys_of es) → int_eq (type_at es 0) t ≡ true → 0 < k → k < length es → int_eq (type_at es k) t ≡ false
alone es t k distinct here p l =
    let apart = apart_from_distinct int_eq (keys_of es) 0 k (pos 0) distinct p (omega (arith, l, length-keys_of es)) in
    grind (arith, ints, here, apart, get_or-keys es 0, get_or-keys es k)

-- an entry of a type that a look-up finds
found_at : (es : List (ℤ × ℕ)) (t : ℤ) (n : ℕ) → lookup (int_eq t) es ≡ Some n → (i : ℕ) × (i < length es) × (type_at es i ≡ t) × (place_at es i ≡ n)
found_at es t n h =
    let p = place_from_lookup (int_eq t) es n h in
    let read = get_or_from_slice_get es p.0 (p.1, n) (pos 0, 0) p.2 in
    (p.0, slice_get_within es p.0 (p.1, n) p.2, ap (λ (x : ℤ × ℕ). x.0) read ∙ sym (int_eq-same _ _ p.3), ap (λ (x : ℤ × ℕ). x.1) read)

-- a look-up finds each entry's place
pub looked_up : (es : List (ℤ × ℕ)) (i : ℕ) → IsDistinct int_eq (keys_of es) → i < length es → lookup (int_eq (type_at es i)) es ≡ Some (place_at es i)
looked_up es i distinct l = lookup_from_place int_eq_equiv es i (type_at es i) (place_at es i) distinct (slice_get-get_or es i (pos 0, 0) l)

-- the least entry has the least place
pub least_of_entry : (es : List (ℤ × ℕ)) (passes : ℤ → Bool) (i : ℕ) → IsDistinct int_eq (keys_of es) → IsLeastEntry passes es (Some i) → IsLeastAt passes (λ t. lookup (int_eq t) es) (Some (place_at es i))
least_of_entry es passes i distinct h = (
  (type_at es i, h.1, looked_up es i distinct h.0),
  λ t n ok at. let f = found_at es t n at in
      let passing : passes (type_at es f.0) ≡ true = ap passes f.2 ∙ ok in
      let least = h.2 f.0 f.1 passing in
      omega (arith, least, f.3),
)

pub none_of_entries : (es : List (ℤ × ℕ)) (passes : ℤ → Bool) → IsLeastEntry passes es None → IsLeastAt passes (λ t. lookup (int_eq t) es) None
none_of_entries es passes h t ok = by (lookup (int_eq t) es) refl
  where
    by : (o : Option ℕ) → lookup (int_eq t) es ≡ o → o ≡ None
    by None e = refl
    by (Some n) e = let f = found_at es t n e in cc (h f.0 f.1, ap passes f.2 ∙ ok)

-- what stands below the first entry, where that is of the type
pub beside_first : (es : List (ℤ × ℕ)) (t : ℤ) (o : Option ℕ) → IsHeap es → IsDistinct int_eq (keys_of es) → int_eq (type_at es 0) t ≡ true → IsLeastUnder es 0 o → IsLeastEntry (λ x. not (int_eq x t)) es o
beside_first es t None heap distinct first none = λ k m. grind (arith, first)
beside_first es t (Some c) heap distinct first some = (
  some.1,
  ap not (alone es t c distinct first (omega (arith, some.0.0)) some.1),
  λ k m ok. climb es c 1 heap (λ i p e n. some.2 i (omega arith, omega arith) n) k k (omega arith) (grind (arith, first, ok)) m,
)

-- a place that no other is above goes to the end
pub grown : (es : List (ℤ × ℕ)) (t : ℤ) (n : ℕ) → IsHeap es → IsDistinct int_eq (keys_of es) → ((q : ℤ) (m : ℕ) → lookup (int_eq q) es ≡ Some m → m ≤ n) → IsHeap (es ++ (t, n) ∷ [])
grown es t n heap distinct above j c b l =
    let kept = λ (i : ℕ) (m : i < length es). get_or_append_left es ((t, n) ∷ []) (pos 0, 0) i m in
    grind (arith, cases_lt c (length es), kept j, kept c, length-append es ((t, n) ∷ []), get_or_push es (t, n) (pos 0, 0) c, heap j c b, looked_up es j distinct, above (type_at es j) (place_at es j))

-- the index of a type
pub index_is : (es : List (ℤ × ℕ)) (t : ℤ) (i : ℕ) → position (int_eq t) (keys_of es) ≡ Some i → (i < length es) × (type_at es i ≡ t)
index_is es t i h =
    let p = position-Some (int_eq t) (keys_of es) i (pos 0) h in
    (omega (arith, p.0, length-keys_of es), sym (get_or-keys es i) ∙ sym ((Decides-int_eq _ _).0 p.1))

entry_at : (es : List (ℤ × ℕ)) (t : ℤ) (i : ℕ) → position (int_eq t) (keys_of es) ≡ Some i → slice_get es i ≡ Some (t, place_at es i)
entry_at es t i h =
    let is = index_is es t i h in
    slice_get-get_or es i (pos 0, 0) is.0 ∙ ap (λ s. Some (s, place_at es i)) is.1

length-written : (es : List (ℤ × ℕ)) (i w : ℕ) → length (set_value_at es i w) ≡ length es
length-written [] i w = refl
length-written (e ∷ es) zero w = refl
length-written (e ∷ es) (suc i) w = ap suc (length-written es i w)

written_here : (es : List (ℤ × ℕ)) (i w : ℕ) → i < length es → place_at (set_value_at es i w) i ≡ w
written_here [] i w l = absurd (omega arith)
written_here (e ∷ es) zero w l = refl
written_here (e ∷ es) (suc i) w l = written_here es i w (omega arith)

written_apart : (es : List (ℤ × ℕ)) (i w k : ℕ) → k ≢ i → place_at (set_value_at es i w) k ≡ place_at es k
written_apart [] i w k other = refl
written_apart (e ∷ es) zero w zero other = absurd (other refl)
written_apart (e ∷ es) zero w (suc k) other = refl
written_apart (e ∷ es) (suc i) w zero other = refl
written_apart (e ∷ es) (suc i) w (suc k) other = written_apart es i w k (λ h. other (ap suc h))

-- a later place at an entry
pub written : (es : List (ℤ × ℕ)) (i w : ℕ) → IsHeap es → i < length es → place_at es i ≤ w → IsHeapDownTo i (set_value_at es i w)
written es i w heap inside later =
    let long = length-written es i w in
    record {
      inside = omega (arith, inside, long);
      others = λ j c b l other. grind (arith, cases_eq c i, long, heap j c, written_here es i w inside, written_apart es i w j, written_apart es i w c);
      around = λ j c b d l. grind (arith, long, heap j i, heap i c, written_apart es i w j, written_apart es i w c);
    }

-- where a type's place is at most a bound, so is the place at its entry
pub later_is : (es : List (ℤ × ℕ)) (t : ℤ) (i w : ℕ) → IsDistinct int_eq (keys_of es) → i < length es → type_at es i ≡ t → IsSomeAnd (lookup (int_eq t) es) (λ n. n ≤ w) → place_at es i ≤ w
later_is es t i w distinct inside at h = rw (← at, looked_up es i distinct inside) at h

-- what a look-up finds once the entry at a type's index is taken out
pub taken_out : {S : Type 0} (m n : IndexMap ℤ ℕ S) (t : ℤ) (i : ℕ) (r : Option (ℤ × ℕ)) → position (int_eq t) (keys_of m.entries) ≡ Some i → r ≡ slice_get m.entries i → IfSome r (λ p. Updates int_eq m n p.0 None) → (q : ℤ) → get int_eq n q ≡ cond (int_eq t q) None (get int_eq m q)
taken_out m n t i r at read h q = (rw (read, entry_at m.entries t i at) at h).0 q

-- and once a place is written at it
pub written_at : {S : Type 0} (m : IndexMap ℤ ℕ S) (t : ℤ) (i w : ℕ) → IsUnique int_eq m → position (int_eq t) (keys_of m.entries) ≡ Some i → (q : ℤ) → get int_eq (with_value_at m i w) q ≡ cond (int_eq t q) (Some w) (get int_eq m q)
written_at m t i w unique at q =
    (updates-with_value_at m i w int_eq_equiv unique t (place_at m.entries i) (entry_at m.entries t i at)).0 q

pub is_there : {X : Type 0} (o : Option X) (P : X → Type 0) → IsSomeAnd o P → is_some o ≡ true
is_there None P h = absurd h
is_there (Some x) P h = refl
