use Rattle.std.proofs.Common.{◌≡◌, ◌≤◌, ◌+◌, length, take, vec_len, vec_capacity}
use Rattle.mq.specs.Workers.{AreAfterWork}
use Rattle.mq.proofs.at_seat.leave_seats.Given as goal

abbrev pub decreases-loop-at : goal.decreases-loop-at
decreases-loop-at g l = length l.taken.items

-- the first workers have left their seats, and there is room for all
abbrev pub invariant-loop-at : goal.invariant-loop-at
invariant-loop-at g l =
    AreAfterWork g.W.Worker.after (take (length l.answers.items) g.C.Crew.workers) l.seats.items l.answers.items
    × (vec_len l.answers + vec_len l.taken ≡ vec_len l.fn.taken)
    × (vec_len l.seats ≡ vec_len l.answers)
    × (vec_len l.fn.taken ≤ vec_capacity l.seats)
    × (vec_len l.fn.taken ≤ vec_capacity l.answers)
