use Rattle.std.proofs.Common.{ℕ, ◌≢◌, ◌<◌}
use Rattle.mq_trace.specs.Walk.{place_in}
use Rattle.mq_trace.proofs.kept.scan.Given as goal

-- no message so far has the place
abbrev pub invariant-loop-i : goal.invariant-loop-i
invariant-loop-i l = (k : ℕ) → k < l.i → place_in l.waiting k ≢ l.place
