-- Lists whose parts are made, or used, one after another.
use Rattle.std.proofs.Common.{◌≡◌, ◌≢◌, ◌⊎◌, inl, inr, ℕ, ◌+◌, ◌-◌, ◌<◌, ◌==◌, true, false, List, [], ◌∷◌, ◌++◌, length, reverse, slice_index_or, ap, ◌∙◌, arith, length-append}
use Rattle.std.proofs.Math.Seq.{get_or-append_seam}
use Rattle.std.proofs.lemmas.Bool.Decides.{eqb_tells}
use Rattle.std.proofs.lemmas.List.{get_or-reverse, get_or_append_left, length-reverse}
use Rattle.mq_system.specs.Seat.{SeatState, fresh_seat}
use Rattle.mq_system.specs.Started.{AreFresh}

-- each item is as it is to be at its place
abbrev pub Each : {A : Type 0} → (ℕ → A → Type 0) → List A → Type 0
Each {A = A} P xs = (k : ℕ) (d : A) → k < length xs → P k (slice_index_or xs k d)

-- and one more is
pub each_push : {A : Type 0} (P : ℕ → A → Type 0) (xs : List A) (x : A) → Each P xs
    → P (length xs) x → Each P (xs ++ x ∷ [])
each_push P xs x each last k d low = by (eqb_tells k (length xs))
  where
    by : (((k == length xs) ≡ true) × (k ≡ length xs)) ⊎ (((k == length xs) ≡ false) × (k ≢ length xs))
        → P k (slice_index_or (xs ++ x ∷ []) k d)
    by (inl p) = rw (p.1, get_or-append_seam xs x [] d) last
    by (inr p) =
        let before : k < length xs = omega (arith, low, length-append xs (x ∷ []), p.1) in
        rw (get_or_append_left xs (x ∷ []) d k before) (each k d before)

-- without the last one they are, and so is the last one
pub each_pop : {A : Type 0} (P : ℕ → A → Type 0) (all xs : List A) (x : A) → all ≡ xs ++ x ∷ []
    → Each P all → Each P xs × P (length xs) x
each_pop P all xs x is each = (
  λ k d low. rw (← get_or_append_left xs (x ∷ []) d k low, ← is)
      (each k d (omega (arith, low, ap length is, length-append xs (x ∷ [])))),
  rw (← get_or-append_seam xs x [] x, ← is)
      (each (length xs) x (omega (arith, ap length is, length-append xs (x ∷ [])))),
)

-- the seats with the last numbers, the last of all first
abbrev pub AreLast : ℕ → ℕ → List SeatState → Type 0
AreLast slots count seats = Each (λ k seat. seat ≡ fresh_seat slots (count - k)) seats

pub all_fresh : (slots count : ℕ) (seats : List SeatState) → length seats ≡ count
    → AreLast slots count seats → AreFresh slots (reverse seats)
all_fresh slots count seats all each k d low =
    let within : k < length seats = omega (arith, low, length-reverse seats) in
    let back : count - (length seats - 1 - k) ≡ k + 1 = omega (arith, within, all) in
    get_or-reverse seats k d within
    ∙ each (length seats - 1 - k) d (omega (arith, within))
    ∙ ap (fresh_seat slots) back
