-- The message at a place, by its index in a list whose places rise.
use Rattle.std.proofs.Common.{◌≡◌, ◌≢◌, ℕ, ℤ, map, zero, suc, ◌<◌, ◌==◌, nat_lt, List, [], ◌∷◌, ◌++◌, length, get_or, position, find, filter, remove, All, AllPairs, IsSome, ◌≤◌, Some, None, Bool, true, false, not, cond, refl, ap, sym, ◌∙◌, arith, slice_get, subst, lt-ltb, eq-eqb, Result, Ok, Err, ⊎_elim}
use Rattle.std.specs.List.{position_or_len}
use Rattle.std.specs.List.Sorted.{IsBinarySearchResult, IsSearchInRange}
use Rattle.std.specs.Ordering.{MatchOrdering, nat_cmp, ordering_index}
use Rattle.std.specs.Result.{result_ok}
use Rattle.std.specs.declared.cmp.Ordering.{Ordering}
use Rattle.std.specs.declared.cmp.Ordering.TheVariants.{Less, Equal, Greater}
use Rattle.std.specs.Cmp.{ranks}
use Rattle.std.proofs.lemmas.Bool.Decides.{nat_tests}
use Rattle.std.proofs.lemmas.List.Sums.{position_or_len_is}
use Rattle.std.specs.Option.{option_map}
use Rattle.std.proofs.lemmas.Bool.{cases_lt, eqb-false, eqb-true, le-ltb, ltb-true, ltb-false, ne_eqb}
use Rattle.std.proofs.lemmas.List.Folds.{find_at}
use Rattle.std.proofs.lemmas.Option.{cond_some, none-some, same_Some, slice_get-get_or, slice_get_past}
use Rattle.std.proofs.lemmas.List.Quantifiers.{position-Some, all_pairs_push, all_pairs_remove}
use Rattle.mq_message.specs.declared.selection.Selection.{Selection}
use Rattle.mq_message.specs.Selection.{pick, eligible}
use Rattle.mq_message.specs.Waiting.{message_at, without}

-- a test that each element passes keeps the list
filter_all : {X : Type 0} (p : X → Bool) (xs : List X) → ((k : ℕ) (d : X) → k < length xs → p (get_or xs k d) ≡ true) → filter p xs ≡ xs
filter_all p [] all = refl
filter_all p (x ∷ xs) all = rw (all 0 x (omega arith)) (ap (λ ys. x ∷ ys) (filter_all p xs (λ k d l. all (suc k) d (omega arith))))

-- a test that one element alone passes: the others are left
filter_one : {X : Type 0} (p : X → Bool) (xs : List X) (i : ℕ) → i < length xs → ((d : X) → p (get_or xs i d) ≡ true) → ((k : ℕ) (d : X) → k < length xs → k ≢ i → p (get_or xs k d) ≡ false) → remove xs i ≡ filter (λ x. not (p x)) xs
filter_one p [] i l here others = absurd (omega arith)
filter_one p (x ∷ xs) zero l here others = rw (here x) (sym (filter_all (λ y. not (p y)) xs (λ k d m. ap not (others (suc k) d (omega arith) (omega arith)))))
filter_one p (x ∷ xs) (suc i) l here others =
    rw (others 0 x (omega arith) (omega arith)) (ap (λ ys. x ∷ ys) (filter_one p xs i (omega arith) here (λ k d m n. others (suc k) d (omega arith) (omega arith))))

-- a test that nothing passes finds nothing
pub find_none : {X : Type 0} (xs : List X) → find (λ _. false) xs ≡ None
find_none [] = refl
find_none (x ∷ xs) = find_none xs

-- a place at which a message is pending has an index
pub has_index : {X : Type 0} (place : ℕ) (xs : List (ℕ × X)) → IsSome (message_at place xs) → IsSome (position (λ m. m.0 == place) xs)
has_index {X} place xs h = by (nat_lt at (length xs)) refl
  where
    at : ℕ
    at = position_or_len (λ (m : ℕ × X). m.0 == place) xs

    by : (b : Bool) → nat_lt at (length xs) ≡ b → IsSome (cond b (Some at) None)
    by true inside = refl
    by false past =
        let nothing : find (λ (m : ℕ × X). m.0 == place) xs ≡ None = find_at _ xs ∙ slice_get_past xs at (ltb-false at (length xs) past) in
        let absent : false ≡ true = rw nothing at h in cc

-- the index of a place is inside the list
inside : {X : Type 0} (place : ℕ) (xs : List (ℕ × X)) (i : ℕ) → position (λ m. m.0 == place) xs ≡ Some i → i < length xs
inside {X} place xs i h =
    let p : ℕ × X → Bool = λ m. m.0 == place in
    let found : (nat_lt (position_or_len p xs) (length xs) ≡ true) × (position_or_len p xs ≡ i) = cond_some _ _ _ h in
    omega (arith, ltb-true _ _ found.0)

-- the message at a place is the one at its index
pub at_index : {X : Type 0} (place : ℕ) (xs : List (ℕ × X)) (i : ℕ) (d : ℕ × X) → position (λ m. m.0 == place) xs ≡ Some i → message_at place xs ≡ Some (get_or xs i d).1
at_index {X} place xs i d h =
    let p : ℕ × X → Bool = λ m. m.0 == place in
    let found : (nat_lt (position_or_len p xs) (length xs) ≡ true) × (position_or_len p xs ≡ i) = cond_some _ _ _ h in
    let read : find p xs ≡ Some (get_or xs i d) = find_at p xs ∙ ap (slice_get xs) found.1 ∙ slice_get-get_or xs i d (inside place xs i h) in
    ap (option_map (λ (m : ℕ × X). m.1)) read

-- two places at different indices differ, where places rise
apart : (k i a b : ℕ) → k ≢ i → (k < i → a < b) → (i < k → b < a) → a ≢ b
apart k i a b other before after same = grind arith

-- to remove at that index leaves the list without the place
pub without_is : {X : Type 0} (place : ℕ) (xs : List (ℕ × X)) (i : ℕ) → AllPairs (λ a b. a.0 < b.0) xs → position (λ m. m.0 == place) xs ≡ Some i → remove xs i ≡ without place xs
without_is {X} place xs i rising h =
    let p : ℕ × X → Bool = λ m. m.0 == place in
    let within = inside place xs i h in
    filter_one p xs i within (λ d. (position-Some p xs i d h).1) (λ k d l other.
    let here : (get_or xs i d).0 ≡ place = eqb-true _ _ (position-Some p xs i d h).1 in
    let before : k < i → (get_or xs k d).0 < (get_or xs i d).0 = λ m. rising k i d m within in
    let after : i < k → (get_or xs i d).0 < (get_or xs k d).0 = λ m. rising i k d m l in
    ne_eqb _ _ (λ same. apart k i _ _ other before after (same ∙ sym here)))

-- places still rise with one above them all at the end
pub rising_push : {X : Type 0} (xs : List (ℕ × X)) (place : ℕ) (x : X) → AllPairs (λ a b. a.0 < b.0) xs → All (λ m. m.0 < place) xs → AllPairs (λ a b. a.0 < b.0) (xs ++ (place, x) ∷ [])
rising_push {X} xs place x rising above = all_pairs_push (λ (a b : ℕ × X). a.0 < b.0) xs (place, x) rising above

-- places still rise without one of them
pub rising_remove : {X : Type 0} (place : ℕ) (xs : List (ℕ × X)) (i : ℕ) → position (λ m. m.0 == place) xs ≡ Some i → AllPairs (λ a b. a.0 < b.0) xs → AllPairs (λ a b. a.0 < b.0) (remove xs i)
rising_remove {X} place xs i h rising = all_pairs_remove (λ (a b : ℕ × X). a.0 < b.0) xs i (inside place xs i h) rising

-- where a test finds a message, one is pending at its place
found_waits : {X : Type 0} (p : ℕ × X → Bool) (xs : List (ℕ × X)) (place : ℕ) → option_map (λ m. m.0) (find p xs) ≡ Some place → IsSome (message_at place xs)
found_waits p [] place h = absurd (none-some place h)
found_waits p (x ∷ xs) place h = by (p x) refl (x.0 == place) refl h (found_waits p xs place)
  where
    by : (a : Bool) → p x ≡ a → (b : Bool) → (x.0 == place) ≡ b → option_map (λ m. m.0) (cond a (Some x) (find p xs)) ≡ Some place → (option_map (λ m. m.0) (find p xs) ≡ Some place → IsSome (message_at place xs)) → IsSome (option_map (λ m. m.1) (cond b (Some x) (find (λ m. m.0 == place) xs)))
    by a e true f k later = refl
    by true e false f k later = absurd (eqb-false _ _ f (same_Some _ _ k))
    by false e false f k later = later k

-- where a selection picks a message, one is pending at its place
pub picked_waits : {X : Type 0} (type_of : ℕ × X → ℤ) (xs : List (ℕ × X)) (selection : Selection) (place : ℕ) → option_map (λ m. m.0) (pick type_of xs selection) ≡ Some place → IsSome (message_at place xs)
picked_waits type_of xs selection place h = found_waits (λ m. eligible (map type_of xs) selection (type_of m)) xs place h

-- the first index at which a message has the place, where one at it has
index_found : {X : Type 0} (place : ℕ) (xs : List (ℕ × X)) (i : ℕ) (d : ℕ × X) → AllPairs (λ a b. a.0 < b.0) xs → i < length xs → (get_or xs i d).0 ≡ place → position (λ m. m.0 == place) xs ≡ Some i
index_found {X} place xs i d rising l here =
    let first : position_or_len (λ (m : ℕ × X). m.0 == place) xs ≡ i = position_or_len_is (λ m. m.0 == place) xs i d (omega arith) (λ k m. ne_eqb _ _ (λ same. before (rising k i d m l) (same ∙ sym here))) (λ _. eq-eqb _ _ here) in
    rw (first, lt-ltb i (length xs) l) refl
  where
    before : {a b : ℕ} → a < b → a ≡ b → ⊥
    before l e = omega arith

-- no index, where no message has the place
index_absent : {X : Type 0} (place : ℕ) (xs : List (ℕ × X)) (d : ℕ × X) → ((k : ℕ) → k < length xs → (get_or xs k d).0 ≢ place) → position (λ m. m.0 == place) xs ≡ None
index_absent {X} place xs d others =
    let first : position_or_len (λ (m : ℕ × X). m.0 == place) xs ≡ length xs = position_or_len_is (λ m. m.0 == place) xs (length xs) d (omega arith) (λ k l. ne_eqb _ _ (others k l)) (λ l. absurd (omega arith)) in
    rw (first, le-ltb (length xs) (length xs) (omega arith)) refl

-- a binary search finds the index of a place, where places rise
pub searched_is : {X : Type 0} (place : ℕ) (xs : List (ℕ × X)) (r : Result ℕ ℕ) → AllPairs (λ a b. a.0 < b.0) xs → IsSearchInRange r (length xs) → IsBinarySearchResult (λ m. nat_cmp m.0 place) xs r → result_ok r ≡ position (λ m. m.0 == place) xs
searched_is place [] (Ok i) rising within h = absurd (omega (arith, within))
searched_is place [] (Err i) rising within h = refl
searched_is {X} place (x ∷ xs) (Ok i) rising within h =
    sym (index_found place (x ∷ xs) i x rising within (ranked (get_or (x ∷ xs) i x).0 (h x)))
  where
    ranked : (a : ℕ) → nat_cmp a place ≡ Equal → a ≡ place
    ranked a e = let P : Ordering → Type 0 = λ o. MatchOrdering o (a < place) (a ≡ place) (place < a) in subst P e (ranks a place)
searched_is {X} place (x ∷ xs) (Err i) rising within h =
    sym (index_absent place (x ∷ xs) x others)
  where
    higher : (a b : ℕ) → a ≤ b → ordering_index (nat_cmp a place) ≤ ordering_index (nat_cmp b place)
    higher a b le = grind (arith, nat_tests)

    up : (j k : ℕ) (d : ℕ × X) → j ≤ k → k < length (x ∷ xs) → (get_or (x ∷ xs) j d).0 ≤ (get_or (x ∷ xs) k d).0
    up j k d le l = ⊎_elim (λ m. let less = rising j k d m l in omega (arith, less)) (λ m. let same : j ≡ k = omega arith in rw same (omega arith)) (cases_lt j k)

    less : (a : ℕ) → nat_cmp a place ≡ Less → a ≢ place
    less a e same = let P : Ordering → Type 0 = λ o. MatchOrdering o (a < place) (a ≡ place) (place < a) in let l = subst P e (ranks a place) in omega (arith, l)

    greater : (a : ℕ) → nat_cmp a place ≡ Greater → a ≢ place
    greater a e same = let P : Ordering → Type 0 = λ o. MatchOrdering o (a < place) (a ≡ place) (place < a) in let l = subst P e (ranks a place) in omega (arith, l)

    others : (k : ℕ) → k < length (x ∷ xs) → (get_or (x ∷ xs) k x).0 ≢ place
    others k l = let parted = h (λ a b d le m. higher _ _ (up a b d le m)) in ⊎_elim (λ m. less (get_or (x ∷ xs) k x).0 (parted.0 k x (omega arith) m)) (λ m. greater (get_or (x ∷ xs) k x).0 (parted.1 k x m l)) (cases_lt k i)
