use Rattle.std.proofs.Common.{◌≡◌, ◌≤◌, vec_len, vec_capacity}
use Rattle.mq_system.proofs.pages.magazines.Magazines.new.Given as goal

-- the magazines so far, and the room for the others
abbrev pub invariant-loop : goal.invariant-loop
invariant-loop g l = (vec_len l.each ≡ l.counter) × (l.initial.count ≤ vec_capacity l.each)
