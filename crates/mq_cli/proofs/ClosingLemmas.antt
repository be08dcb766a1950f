-- The lines that are printed at the end, one after another.
use Rattle.std.proofs.Common.{◌≡◌, ℕ, ◌+◌, ◌<◌, suc, List, ◌∷◌, ◌++◌, length, drop, refl, sym, ap, ◌∙◌, append_assoc, arith, add-one, drop-cons}
use Rattle.std.proofs.Math.ListN.{get_or}
use Rattle.mq_calls.specs.declared.close.ClosedSlot.{ClosedSlot}
use Rattle.mq_cli.specs.declared.threads.outcome.Outcome.{Outcome}
use Rattle.mq_cli.specs.Closing.{slot_line, slot_lines, worker_line, worker_lines}

-- the rest begins with this element
pub rest_begins : {A : Type 0} (xs : List A) (k : ℕ) (x : A) → k < length xs → x ≡ get_or xs k x → drop k xs ≡ x ∷ drop (k + 1) xs
rest_begins xs k x within is = rw add-one (drop-cons xs k x within ∙ ap (λ y. y ∷ drop (suc k) xs) (sym is))

-- one line is written before the rest
pub line_before : (old out line rest whole : List ℕ) → out ++ (line ++ rest) ≡ old ++ whole → (out ++ line) ++ rest ≡ old ++ whole
line_before old out line rest whole e = append_assoc out line rest ∙ e

pub worker_next : (outcomes : List Outcome) (k : ℕ) (o : Outcome) → k < length outcomes → o ≡ get_or outcomes k o
    → worker_lines (k + 2) (drop k outcomes) ≡ worker_line (k + 2) o ++ worker_lines (k + 1 + 2) (drop (k + 1) outcomes)
worker_next outcomes k o within is =
    let next : k + 2 + 1 ≡ k + 1 + 2 = omega arith in
    rw (rest_begins outcomes k o within is) (ap (λ n. worker_line (k + 2) o ++ worker_lines n (drop (k + 1) outcomes)) next)

pub slot_next : (slots : List ClosedSlot) (k : ℕ) (s : ClosedSlot) → k < length slots → s ≡ get_or slots k s
    → slot_lines k (drop k slots) ≡ slot_line k s ++ slot_lines (k + 1) (drop (k + 1) slots)
slot_next slots k s within is = rw (rest_begins slots k s within is) refl
