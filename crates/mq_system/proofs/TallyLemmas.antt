-- What all slots have, and what all seats count.
use Rattle.std.proofs.Common.{◌≡◌, ◌+◌, List, [], ◌∷◌, ◌++◌, reverse, refl, ap, arith}
use Rattle.std.specs.List.{sum}
use Rattle.std.proofs.lemmas.Grind.{reverse_onto}
use Rattle.std.proofs.lemmas.List.Sums.{sum_by-cons, sum_by_push}
use Rattle.mq_calls.specs.Closed.{entries_at_end}
use Rattle.mq_calls.specs.declared.close.ClosedSlot.{ClosedSlot}
use Rattle.mq_system.specs.Closed.{entries_in}
use Rattle.mq_system.specs.Seat.{SeatState, counted_by}

-- one seat more
pub counted_more : (seats : List SeatState) (seat : SeatState)
    → counted_by (seats ++ seat ∷ []) ≡ counted_by seats + sum seat.by_slot
counted_more seats seat = sum_by_push (λ (s : SeatState). sum s.by_slot) seats seat

-- one slot more
pub entries_more : (slots : List ClosedSlot) (slot : ClosedSlot)
    → entries_in (slots ++ slot ∷ []) ≡ entries_in slots + entries_at_end slot
entries_more slots slot = sum_by_push entries_at_end slots slot

-- the slots in the other order
pub entries_reverse : (slots : List ClosedSlot) → entries_in (reverse slots) ≡ entries_in slots
entries_reverse [] = refl
entries_reverse (s ∷ ss) =
    omega (arith, ap entries_in (reverse_onto ss s []), entries_more (reverse ss) s, entries_reverse ss, sum_by-cons entries_at_end s ss)
