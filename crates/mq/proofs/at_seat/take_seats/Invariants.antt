use Rattle.std.proofs.Common.{◌≡◌, ◌≤◌, ◌+◌, ◌++◌, List, length, vec_len, vec_capacity}
use Rattle.mq.proofs.at_seat.take_seats.Given as goal

abbrev pub decreases-loop-worker : goal.decreases-loop-worker
decreases-loop-worker g l = length l.workers.items

-- the workers that are left are the first ones, and as many seats are left
abbrev pub invariant-loop-worker : goal.invariant-loop-worker
invariant-loop-worker g l =
    ((rest : List g.row.W.Denot) × (l.workers.items ++ rest ≡ g.C.Crew.workers))
    × (vec_len l.seats ≡ vec_len l.workers)
    × (vec_capacity l.seats ≡ vec_capacity l.fn.seats)
    × (vec_len l.taken + vec_len l.workers ≡ vec_len l.fn.workers)
    × (vec_len l.fn.workers ≤ vec_capacity l.taken)
