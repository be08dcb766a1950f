-- The headers of all queues, sorted by their places.
use Rattle.std.proofs.Common.{◌≡◌, ◌∙◌, refl, sym, ap, ℕ, ℤ, ◌<◌, ◌≤◌, nat_le, nat_lt, true, false, cond, suc, List, [], ◌∷◌, ◌++◌, sum_by, arith}
use Rattle.std.specs.List.{AllByRecursion}
use Rattle.std.specs.List.Sorted.{IsNonDecreasingBy, IsPermutation}
use Rattle.std.proofs.lemmas.Bool.{cases_order, cond_both}
use Rattle.std.proofs.lemmas.Bool.Decides.{nat_tests}
use Rattle.std.proofs.lemmas.List.Elements.{All-from_recursion, recursion_from_All}
use Rattle.std.proofs.lemmas.List.Sorted.{All-permutation, IsPermutation-append_comm, IsPermutation-append_left, IsPermutation-append_right, IsPermutation-cons, IsPermutation-map, IsPermutation-refl, IsPermutation-sym, IsPermutation-trans, sum_by-IsPermutation}
use Rattle.std.proofs.lemmas.List.Sums.{sum_by-cons}
use Rattle.mq_message.specs.declared.message.Message.{Message}
use Rattle.mq_message.specs.declared.header.Header.{Header}
use Rattle.mq_message.specs.Waiting.{header_of, headers_of}
use Rattle.mq_select.specs.ByType.{gathered, merge, merged, placed_in, IsRising}
use Rattle.mq_select.proofs.Merging.{weaker}

-- to place a message among others, or to merge, only moves them
placed_moves : {X : Type 0} (x : ℕ × X) (ys : List (ℕ × X)) → IsPermutation (x ∷ ys) (placed_in x ys)
placed_moves x [] = IsPermutation-refl (x ∷ [])
placed_moves x (y ∷ ys) =
    let exchanged = IsPermutation-append_left ys (x ∷ y ∷ []) (y ∷ x ∷ []) (IsPermutation-append_comm (x ∷ []) (y ∷ [])) in
    let later = IsPermutation-cons y (x ∷ ys) (placed_in x ys) (placed_moves x ys) in
    cond_both (nat_lt x.0 y.0) _ _ (IsPermutation (x ∷ y ∷ ys)) (λ e. IsPermutation-refl (x ∷ y ∷ ys)) (λ e. IsPermutation-trans (x ∷ y ∷ ys) (y ∷ x ∷ ys) (y ∷ placed_in x ys) exchanged later)

merge_moves : {X : Type 0} (xs ys : List (ℕ × X)) → IsPermutation (xs ++ ys) (merge xs ys)
merge_moves [] ys = IsPermutation-refl ys
merge_moves {X} (x ∷ xs) ys =
    IsPermutation-trans (x ∷ xs ++ ys) (x ∷ merge xs ys) (merge (x ∷ xs) ys) (IsPermutation-cons x (xs ++ ys) (merge xs ys) (merge_moves xs ys)) (placed_moves x (merge xs ys))

merged_moves : {X : Type 0} (queues : List (ℤ × List (ℕ × X))) → IsPermutation (gathered queues) (merged queues)
merged_moves [] = IsPermutation-refl []
merged_moves {X} (q ∷ qs) =
    IsPermutation-trans (q.1 ++ gathered qs) (q.1 ++ merged qs) (merge q.1 (merged qs)) (IsPermutation-append_right q.1 (gathered qs) (merged qs) (merged_moves qs)) (merge_moves q.1 (merged qs))

-- numbers that rise, and numbers that do not fall
abbrev Rises : {X : Type 0} → (X → ℕ) → List X → Type 0
Rises n [] = Unit {0}
Rises n (x ∷ xs) = AllByRecursion (λ y. n x < n y) xs × Rises n xs

abbrev Keeps_up : {X : Type 0} → (X → ℕ) → List X → Type 0
Keeps_up n [] = Unit {0}
Keeps_up n (x ∷ xs) = AllByRecursion (λ y. n x ≤ n y) xs × Keeps_up n xs

up_from : {X : Type 0} (n : X → ℕ) (xs : List X) → IsNonDecreasingBy n xs → Keeps_up n xs
up_from n [] up = tt
up_from {X} n (x ∷ xs) up =
    (recursion_from_All (λ (y : X). n x ≤ n y) xs (λ k d l. up 0 (suc k) d (omega arith) (omega (arith, l))), up_from n xs (λ i j d low l. up (suc i) (suc j) d (omega (arith, low)) (omega (arith, l))))

-- whether a number is at most the bound, as a count
abbrev within : ℕ → ℕ → ℕ
within bound k = cond (nat_le k bound) 1 0

none_within : {X : Type 0} (n : X → ℕ) (bound : ℕ) (xs : List X) → AllByRecursion (λ x. bound < n x) xs → sum_by (λ x. within bound (n x)) xs ≡ 0
none_within n bound [] above = refl
none_within {X} n bound (x ∷ xs) above =
    let over : nat_le (n x) bound ≡ false = grind (arith, nat_tests, above.0) in
    sum_by-cons (λ (x : X). within bound (n x)) x xs ∙ rw (over, none_within n bound xs above.1) refl

one_within : {X : Type 0} (n : X → ℕ) (x : X) (xs : List X) → 1 ≤ sum_by (λ y. within (n x) (n y)) (x ∷ xs)
one_within {X} n x xs =
    let here : nat_le (n x) (n x) ≡ true = grind (arith, nat_tests) in
    rw (sum_by-cons (λ (y : X). within (n x) (n y)) x xs, here) (omega arith)

-- of two lists with the same numbers, one that rises and one that does not fall, the heads have the same number
heads_agree : {X : Type 0} (n : X → ℕ) (x y : X) (xs ys : List X) → Rises n (x ∷ xs) → Keeps_up n (y ∷ ys) → ((f : ℕ → ℕ) → sum_by (λ z. f (n z)) (x ∷ xs) ≡ sum_by (λ z. f (n z)) (y ∷ ys)) → n x ≡ n y
heads_agree {X} n x y xs ys rises up sums =
    let y_above = λ (less : n x < n y). none_within n (n x) (y ∷ ys) (less, weaker (λ (z : X). n y ≤ n z) (λ (z : X). n x < n z) ys (λ z h. omega (arith, less, h)) up.0) in
    let x_above = λ (less : n y < n x). none_within n (n y) (x ∷ xs) (less, weaker (λ (z : X). n x < n z) (λ (z : X). n y < n z) xs (λ z h. omega (arith, less, h)) rises.0) in
    grind (arith, cases_order (n x) (n y), one_within n x xs, one_within n y ys, sums (within (n x)), sums (within (n y)), y_above, x_above)

-- so they are the same list, where no two elements have one number
same_list : {X : Type 0} (n : X → ℕ) (xs ys : List X) → Rises n xs → Keeps_up n ys → AllByRecursion (λ x. AllByRecursion (λ y. n x ≡ n y → x ≡ y) ys) xs → ((f : ℕ → ℕ) → sum_by (λ z. f (n z)) xs ≡ sum_by (λ z. f (n z)) ys) → xs ≡ ys
same_list n [] [] rises up own sums = refl
same_list {X} n [] (y ∷ ys) rises up own sums = absurd (omega (arith, sums (λ k. 1), sum_by-cons (λ (z : X). 1) y ys))
same_list {X} n (x ∷ xs) [] rises up own sums = absurd (omega (arith, sums (λ k. 1), sum_by-cons (λ (z : X). 1) x xs))
same_list {X} n (x ∷ xs) (y ∷ ys) rises up own sums =
    let e : n x ≡ n y = heads_agree n x y xs ys rises up sums in
    let same : x ≡ y = own.0.0 e in
    let later = weaker (λ (z : X). AllByRecursion (λ w. n z ≡ n w → z ≡ w) (y ∷ ys)) (λ (z : X). AllByRecursion (λ w. n z ≡ n w → z ≡ w) ys) xs (λ z h. h.1) own.1 in
    let rest : xs ≡ ys = same_list n xs ys rises.1 up.1 later (λ f. omega (arith, sums f, sum_by-cons (λ (z : X). f (n z)) x xs, sum_by-cons (λ (z : X). f (n z)) y ys, ap f e)) in
    ap (λ (z : X). z ∷ xs) same ∙ ap (λ (zs : List X). y ∷ zs) rest

both_of : {X : Type 0} (P Q : X → Type 0) (xs : List X) → AllByRecursion P xs → AllByRecursion Q xs → AllByRecursion (λ x. P x × Q x) xs
both_of P Q [] p q = tt
both_of P Q (x ∷ xs) p q = ((p.0, q.0), both_of P Q xs p.1 q.1)

own_number : {X : Type 0} (n : X → ℕ) (xs : List X) → Rises n xs → AllByRecursion (λ x. AllByRecursion (λ y. n x ≡ n y → x ≡ y) xs) xs
own_number n [] rises = tt
own_number {X} n (x ∷ xs) rises = (
  (λ e. refl, weaker (λ (y : X). n x < n y) (λ (y : X). n x ≡ n y → x ≡ y) xs (λ y less e. absurd (omega (arith, less, e))) rises.0),
  both_of (λ (z : X). n z ≡ n x → z ≡ x) (λ (z : X). AllByRecursion (λ y. n z ≡ n y → z ≡ y) xs) xs (weaker (λ (y : X). n x < n y) (λ (y : X). n y ≡ n x → y ≡ x) xs (λ y less e. absurd (omega (arith, less, e))) rises.0) (own_number n xs rises.1),
)

ordered_same : {X : Type 0} (n : X → ℕ) (xs ys : List X) → Rises n xs → IsPermutation xs ys → IsNonDecreasingBy n ys → xs ≡ ys
ordered_same {X} n xs ys rises moved up =
    let R : X → X → Type 0 = λ x y. n x ≡ n y → x ≡ y in
    let own = weaker (λ (x : X). AllByRecursion (R x) xs) (λ (x : X). AllByRecursion (R x) ys) xs (λ x h. recursion_from_All (R x) ys (All-permutation (R x) xs ys moved (All-from_recursion (R x) xs h))) (own_number n xs rises) in
    same_list n xs ys rises (up_from n ys up) own (λ f. sym (sum_by-IsPermutation (λ (z : X). f (n z)) xs ys moved))

-- headers rise where the messages do
above_all : {B : Type 0} (bytes : B → List ℕ) (k : ℕ) (messages : List (ℕ × Message B)) → AllByRecursion (λ m. k < m.0) messages → AllByRecursion (λ h. k < h.place) (headers_of bytes messages)
above_all bytes k [] above = tt
above_all bytes k (m ∷ ms) above = (above.0, above_all bytes k ms above.1)

headers_rise : {B : Type 0} (bytes : B → List ℕ) (messages : List (ℕ × Message B)) → IsRising messages → Rises (λ h. h.place) (headers_of bytes messages)
headers_rise bytes [] rising = tt
headers_rise bytes (m ∷ ms) rising = (above_all bytes m.0 ms rising.0, headers_rise bytes ms rising.1)

-- the headers of the messages queue by queue, sorted by place, are those of the messages by place
pub sorted_is : {B : Type 0} (bytes : B → List ℕ) (queues : List (ℤ × List (ℕ × Message B))) (headers : List Header) → IsRising (merged queues) → IsPermutation (headers_of bytes (gathered queues)) headers → IsNonDecreasingBy (λ h. h.place) headers → headers ≡ headers_of bytes (merged queues)
sorted_is {B} bytes queues headers rising moved up =
    let whole : List Header = headers_of bytes (merged queues) in
    let parts : List Header = headers_of bytes (gathered queues) in
    let apart : IsPermutation whole parts = IsPermutation-sym parts whole (IsPermutation-map (header_of bytes) (gathered queues) (merged queues) (merged_moves queues)) in
    sym (ordered_same (λ h. h.place) whole headers (headers_rise bytes (merged queues) rising) (IsPermutation-trans whole parts headers apart moved) up)
