use Rattle.std.proofs.Common.{◌≡◌, ◌≤◌, vec_len, vec_capacity}
use Rattle.mq_system.proofs.pages.magazines.no_drafters.Given as goal

-- those so far, and the room for the others
abbrev pub invariant-loop : goal.invariant-loop
invariant-loop l = (vec_len l.drafters ≡ l.counter) × (l.initial.pages ≤ vec_capacity l.drafters)
