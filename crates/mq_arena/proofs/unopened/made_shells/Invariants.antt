use Rattle.std.proofs.Common.{◌≡◌, vec_len, vec_capacity}
use Rattle.mq_arena.proofs.unopened.made_shells.Given as goal

-- the shells so far, and the room for the others
abbrev pub invariant-loop : goal.invariant-loop
invariant-loop l = record {
  count : vec_len l.shells ≡ l.counter;
  room : vec_capacity l.shells ≡ l.count;
}
