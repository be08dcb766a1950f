use Rattle.std.proofs.Common.{◌≡◌, ◌≤◌, ◌+◌, length, vec_len, vec_capacity}
use Rattle.mq.proofs.at_seat.clear_seats.Given as goal

abbrev pub decreases-loop-at : goal.decreases-loop-at
decreases-loop-at g l = length l.taken.items

-- there is a seat for each that was taken, and room for all
abbrev pub invariant-loop-at : goal.invariant-loop-at
invariant-loop-at g l =
    (vec_len l.seats + vec_len l.taken ≡ vec_len l.fn.taken)
    × (vec_len l.fn.taken ≤ vec_capacity l.seats)
