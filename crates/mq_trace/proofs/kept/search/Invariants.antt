use Rattle.std.proofs.Common.{ℕ, ◌<◌, ◌≤◌, ◌-◌, length}
use Rattle.mq_trace.specs.Walk.{place_in}
use Rattle.mq_trace.proofs.kept.search.Given as goal

-- the messages before `low` have lower places, and those from `high` on greater ones
abbrev pub invariant-loop-low : goal.invariant-loop-low
invariant-loop-low l =
    (l.low ≤ l.high) × (l.high ≤ length l.waiting)
    × ((k : ℕ) → k < l.low → place_in l.waiting k < l.place)
    × ((k : ℕ) → l.high ≤ k → k < length l.waiting → l.place < place_in l.waiting k)

abbrev pub decreases-loop-low : goal.decreases-loop-low
decreases-loop-low l = l.high - l.low
