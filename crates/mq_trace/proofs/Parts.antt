use Rattle.std.proofs.Common.{◌≡◌, ℕ, ◌+◌, ◌-◌, ◌<◌, ◌≤◌, ◌⊎◌, inl, inr, List, [], ◌∷◌, ◌++◌, length, get_or, take, drop, Some, None, refl, sym, ap, ◌∙◌, arith, zero, suc, append-nil, append_assoc}
use Rattle.std.specs.List.{slice_get, slice_range}
use Rattle.std.specs.Option.{option_or}
use Rattle.std.proofs.lemmas.Grind.{common_steps}
use Rattle.std.proofs.lemmas.Option.{slice_get_cases}
use Rattle.mq_queue.specs.declared.event.Event.{Event}
use Rattle.mq_trace.specs.Walk.{passed}

-- the first element behind n others
pub first_behind : (n : ℕ) (xs : List Event) → slice_get (drop n xs) 0 ≡ slice_get xs n
first_behind zero xs = refl
first_behind (suc n) [] = refl
first_behind (suc n) (x ∷ xs) = first_behind n xs

-- an element behind n others
got_behind : (n : ℕ) (xs : List Event) (i : ℕ) → slice_get (drop n xs) i ≡ slice_get xs (n + i)
got_behind zero xs i = let same : 0 + i ≡ i = omega arith in ap (λ (k : ℕ). slice_get xs k) (sym same)
got_behind (suc n) [] i = refl
got_behind (suc n) (x ∷ xs) i =
    let next : suc n + i ≡ suc (n + i) = omega arith in
    got_behind n xs i ∙ ap (λ (k : ℕ). slice_get (x ∷ xs) k) (sym next)

taken_more : (xs : List Event) (n : ℕ) (x : Event) → slice_get xs n ≡ Some x → take (suc n) xs ≡ take n xs ++ x ∷ []
taken_more [] n x got = cc
taken_more (y ∷ ys) zero x got = cc
taken_more (y ∷ ys) (suc n) x got = ap (λ (l : List Event). y ∷ l) (taken_more ys n x got)

rest_more : (xs : List Event) (n : ℕ) (x : Event) → slice_get xs n ≡ Some x → drop n xs ≡ x ∷ drop (suc n) xs
rest_more [] n x got = cc
rest_more (y ∷ ys) zero x got = cc
rest_more (y ∷ ys) (suc n) x got = rest_more ys n x got

range_more : (xs : List Event) (a b : ℕ) (x : Event) → a ≤ b → slice_get xs b ≡ Some x → slice_range xs a (b + 1) ≡ slice_range xs a b ++ x ∷ []
range_more xs a b x within got =
    let next : (b + 1) - a ≡ suc (b - a) = omega arith in
    let here : a + (b - a) ≡ b = omega arith in
    let at : slice_get (drop a xs) (b - a) ≡ Some x = got_behind a xs (b - a) ∙ ap (λ (k : ℕ). slice_get xs k) here ∙ got in
    ap (λ (n : ℕ). take n (drop a xs)) next ∙ taken_more (drop a xs) (b - a) x at

passed_at : (xs : List Event) (a b : ℕ) (x : Event) → a ≤ b → slice_get xs b ≡ Some x
    → passed (slice_range xs a b) (drop b xs) ≡ record { log = slice_range xs a (b + 1); rest = drop (b + 1) xs }
passed_at xs a b x within got =
    let next : b + 1 ≡ suc b = omega arith in
    ap (λ (l : List Event). passed (slice_range xs a b) l) (rest_more xs b x got)
    ∙ ap (λ (l : List Event). record { log = l; rest = drop (suc b) xs }) (sym (range_more xs a b x within got))
    ∙ ap (λ (k : ℕ). record { log = slice_range xs a (b + 1); rest = drop k xs }) (sym next)

passed_by : (xs : List Event) (a b : ℕ) → a ≤ b → b < length xs
    → ((x : Event) × (b < length xs) × (slice_get xs b ≡ Some x) × (get_or xs b x ≡ x)) ⊎ ((length xs ≤ b) × (slice_get xs b ≡ None))
    → record { log = slice_range xs a (b + 1); rest = drop (b + 1) xs } ≡ passed (slice_range xs a b) (drop b xs)
passed_by xs a b within more (inl got) = sym (passed_at xs a b got.0 within got.2)
passed_by xs a b within more (inr none) = absurd (omega arith)

-- the next element is passed
pub passed_one : (xs : List Event) (a b : ℕ) → a ≤ b → b < length xs
    → record { log = slice_range xs a (b + 1); rest = drop (b + 1) xs } ≡ passed (slice_range xs a b) (drop b xs)
passed_one xs a b within more = passed_by xs a b within more (slice_get_cases xs b).1

-- with none left nothing is
pub passed_none : (log xs : List Event) (b : ℕ) → length xs ≤ b → record { log = log; rest = drop b xs } ≡ passed log (drop b xs)
passed_none log xs b past =
    let none : drop b xs ≡ [] = grind (arith, common_steps) in rw none refl

pub first_of_both : (xs ys : List Event) → slice_get (xs ++ ys) 0 ≡ option_or (slice_get xs 0) (slice_get ys 0)
first_of_both [] ys = refl
first_of_both (x ∷ xs) ys = refl

-- the entry is passed in the first part
pub passed_past : (pl pr ll lr : List Event) (x : Event) → slice_get pr 0 ≡ Some x → (pr ≡ []) ⊎ (ll ≡ [])
    → record { log = (passed pl pr).log ++ ll; rest = (passed pl pr).rest ++ lr } ≡ passed (pl ++ ll) (pr ++ lr)
passed_past pl [] ll lr x got one = cc
passed_past pl (y ∷ ys) ll lr x got (inl none) = cc
passed_past pl (y ∷ ys) ll lr x got (inr none) =
    let logs : (pl ++ y ∷ []) ++ ll ≡ (pl ++ ll) ++ y ∷ [] = rw none (append-nil (pl ++ y ∷ []) ∙ ap (λ (l : List Event). l ++ y ∷ []) (sym (append-nil pl))) in
    ap (λ (l : List Event). record { log = l; rest = ys ++ lr }) logs

-- or in the second one
pub passed_last : (pl pr ll lr : List Event) → slice_get pr 0 ≡ None
    → record { log = pl ++ (passed ll lr).log; rest = pr ++ (passed ll lr).rest } ≡ passed (pl ++ ll) (pr ++ lr)
passed_last pl (y ∷ ys) ll lr none = cc
passed_last pl [] ll [] none = refl
passed_last pl [] ll (y ∷ ys) none = ap (λ (l : List Event). record { log = l; rest = ys }) (sym (append_assoc pl ll (y ∷ [])))

-- with no first entry there is none
pub nothing_first : (xs : List Event) → slice_get xs 0 ≡ None → xs ≡ []
nothing_first [] none = refl
nothing_first (x ∷ xs) none = cc
