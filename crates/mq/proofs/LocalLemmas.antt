-- The rows that a report of one thread shows one after another.
use Rattle.std.proofs.Common.{◌≡◌, ◌≢◌, ◌⊎◌, inl, inr, ℕ, suc, ◌+◌, ◌<◌, ◌==◌, true, false, List, [], ◌∷◌, length, map, slice_index_or, slice_set, refl, ap, ◌∙◌, arith, get_or-set_same, get_or-set_other}
use Rattle.std.proofs.lemmas.Bool.Decides.{eqb_tells}
use Rattle.mq_arena.specs.Text.{PlainText}
use Rattle.mq_queue.specs.declared.figures.BoardRow.{BoardRow}
use Rattle.mq_table.specs.Kept.{KeptSlot}
use Rattle.mq_table.specs.KeptShown.{row_now}
use Rattle.mq_table.specs.SlotParts.{empty_kept}

-- the first n are the rows of the slots
abbrev pub AreRowsOf : List (KeptSlot PlainText) → List BoardRow → ℕ → Type 0
AreRowsOf slots rows n =
    (k : ℕ) (d : BoardRow) → k < n
    → slice_index_or rows k d ≡ row_now (slice_index_or slots k (empty_kept k))

-- and so is one more
pub rows_more : (slots : List (KeptSlot PlainText)) (rows : List BoardRow) (n : ℕ)
    (next : BoardRow) → n < length rows → next ≡ row_now (slice_index_or slots n (empty_kept n))
    → AreRowsOf slots rows n → AreRowsOf slots (slice_set rows n next) (n + 1)
rows_more slots rows n next within is so_far k d less = by (eqb_tells k n)
  where
    by : (((k == n) ≡ true) × (k ≡ n)) ⊎ (((k == n) ≡ false) × (k ≢ n))
        → slice_index_or (slice_set rows n next) k d
        ≡ row_now (slice_index_or slots k (empty_kept k))
    by (inl p) = rw (p.1, get_or-set_same rows n next d within) is
    by (inr p) =
        let below : k < n = omega (arith, less, p.1) in
        get_or-set_other rows n k next d p.1 ∙ so_far k d below

-- all of them, whatever stands for a slot that is not there
pub all_rows : (none : ℕ → KeptSlot PlainText) (slots : List (KeptSlot PlainText))
    (rows : List BoardRow) → length rows ≡ length slots
    → ((k : ℕ) (d : BoardRow) → k < length rows
    → slice_index_or rows k d ≡ row_now (slice_index_or slots k (none k)))
    → rows ≡ map row_now slots
all_rows none [] [] same each = refl
all_rows none [] (r ∷ rs) same each = absurd (omega (arith, same))
all_rows none (s ∷ ss) [] same each = absurd (omega (arith, same))
all_rows none (s ∷ ss) (r ∷ rs) same each =
    ap (λ (x : BoardRow). x ∷ rs) (each 0 r (omega arith))
    ∙ ap (λ (xs : List BoardRow). row_now s ∷ xs)
    (all_rows (λ k. none (suc k)) ss rs (omega (arith, same))
    (λ k d less. each (suc k) d (omega (arith, less))))
