-- The rows that a report shows one after another, and their sums.
use Rattle.std.proofs.Common.{◌≡◌, ◌≢◌, ◌⊎◌, inl, inr, ℕ, suc, ◌+◌, ◌^◌, ◌<◌, ◌==◌, true, false, List, [], ◌∷◌, length, map, slice_index_or, slice_set, refl, ap, sym, ◌∙◌, arith, get_or-set_same, get_or-set_other}
use Rattle.std.proofs.lemmas.Bool.Decides.{eqb_tells}
use Rattle.mq_queue.specs.Row.{row}
use Rattle.mq_queue.specs.declared.event.Event.{Event}
use Rattle.mq_queue.specs.declared.figures.BoardRow.{BoardRow}
use Rattle.mq_calls.specs.Usages.{no_usage, used}
use Rattle.mq_calls.proofs.UsageLemmas.{usage_more, usage_same}
use Rattle.mq_system.specs.Seat.{SeatState, front_of}
use Rattle.mq_system.specs.Shown.{known_usage}

-- the first n are the rows of the fronts
abbrev pub AreRows : List (List Event) → List BoardRow → ℕ → Type 0
AreRows fronts rows n =
    (k : ℕ) (d : BoardRow) → k < n → slice_index_or rows k d ≡ row (slice_index_or fronts k [])

-- and so is one more, of a front that was read once more
pub rows_more : (old new : SeatState) (rows : List BoardRow) (n : ℕ) (next : BoardRow)
    → n < length rows → n < length old.fronts
    → new.fronts ≡ slice_set old.fronts n (front_of new n) → next ≡ row (front_of new n)
    → AreRows old.fronts rows n → AreRows new.fronts (slice_set rows n next) (n + 1)
rows_more old new rows n next within low sees is so_far k d less = by (eqb_tells k n)
  where
    below : k ≢ n → k < n
    below other = omega (arith, less, other)

    by : (((k == n) ≡ true) × (k ≡ n)) ⊎ (((k == n) ≡ false) × (k ≢ n))
        → slice_index_or (slice_set rows n next) k d ≡ row (slice_index_or new.fronts k [])
    by (inl p) = rw (p.1, get_or-set_same rows n next d within) is
    by (inr p) =
        let front : slice_index_or new.fronts k [] ≡ slice_index_or old.fronts k [] =
        ap (λ (fronts : List (List Event)). slice_index_or fronts k []) sees
        ∙ get_or-set_other old.fronts n k (front_of new n) [] p.1 in
        get_or-set_other rows n k next d p.1 ∙ so_far k d (below p.1) ∙ ap row (sym front)

-- all of them
pub all_rows : (fronts : List (List Event)) (rows : List BoardRow) → length rows ≡ length fronts
    → AreRows fronts rows (length rows) → rows ≡ map row fronts
all_rows [] [] same each = refl
all_rows [] (r ∷ rs) same each = absurd (omega (arith, same))
all_rows (f ∷ fs) [] same each = absurd (omega (arith, same))
all_rows (f ∷ fs) (r ∷ rs) same each =
    ap (λ (x : BoardRow). x ∷ rs) (each 0 r (omega arith))
    ∙ ap (λ (xs : List BoardRow). row f ∷ xs)
    (all_rows fs rs (omega (arith, same)) (λ k d less. each (suc k) d (omega (arith, less))))

-- the front of a slot below one that was read once more is as it was
front_below : (old new : SeatState) (n k : ℕ) → new.fronts ≡ slice_set old.fronts n (front_of new n)
    → k < n → front_of old k ≡ front_of new k
front_below old new n k sees less = by (eqb_tells k n)
  where
    by : (((k == n) ≡ true) × (k ≡ n)) ⊎ (((k == n) ≡ false) × (k ≢ n)) → front_of old k ≡ front_of new k
    by (inl p) = absurd (omega (arith, less, p.1))
    by (inr p) =
        sym (ap (λ (fronts : List (List Event)). slice_index_or fronts k []) sees
        ∙ get_or-set_other old.fronts n k (front_of new n) [] p.1)

-- what is in use, with one slot more, which was read once more
pub usage_known : (slots height : ℕ) (old new : SeatState) (n : ℕ) (next : BoardRow)
    → new.fronts ≡ slice_set old.fronts n (front_of new n) → next ≡ row (front_of new n)
    → used (known_usage slots height old n) n next ≡ known_usage slots height new (n + 1)
usage_known slots height old new n next sees is =
    rw (
      is,
      usage_same (no_usage slots (2 ^ height)) (λ k. row (front_of old k)) (λ k. row (front_of new k)) n
          (λ k less. ap row (front_below old new n k sees less)),
    )
    (usage_more (no_usage slots (2 ^ height)) (λ k. row (front_of new k)) n)
