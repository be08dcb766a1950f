-- What all seats can still count.
use Rattle.std.proofs.Common.{◌≡◌, ℕ, ◌+◌, ◌*◌, List, [], ◌∷◌, ◌++◌, length, length-append, ap, ◌∙◌}
use Rattle.std.proofs.Math.Nat.{add-mul, one-mul}
use Rattle.mq_system.specs.Seat.{SeatState}
use Rattle.mq_system.specs.Sizes.{all_changes}
use Rattle.mq_system.specs.declared.seat.TheConstants.{MAX_COUNT}

-- what one seat can change
pub one_seat : (slots : ℕ) → all_changes slots 1 ≡ slots * MAX_COUNT
one_seat slots = one-mul (slots * MAX_COUNT)

-- what one seat more can change
pub changes_more : (slots seats : ℕ)
    → all_changes slots (seats + 1) ≡ all_changes slots seats + slots * MAX_COUNT
changes_more slots seats =
    add-mul seats 1 (slots * MAX_COUNT) ∙ ap (λ n. all_changes slots seats + n) (one-mul (slots * MAX_COUNT))

-- the same of a list of them
pub one_seat_more : (slots : ℕ) (left : List SeatState) (seat : SeatState) {items : List SeatState}
    → items ≡ left ++ seat ∷ []
    → all_changes slots (length items) ≡ all_changes slots (length left) + slots * MAX_COUNT
one_seat_more slots left seat is =
    ap (λ n. all_changes slots n) (ap length is ∙ length-append left (seat ∷ []))
    ∙ changes_more slots (length left)
