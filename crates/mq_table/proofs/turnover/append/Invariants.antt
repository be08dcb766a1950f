use Rattle.std.proofs.Common.{◌≡◌, ◌+◌, ◌≤◌, ◌++◌, length, take, vec_len, vec_capacity}
use Rattle.mq_table.proofs.turnover.append.Given as goal

abbrev pub invariant-loop-i : goal.invariant-loop-i
invariant-loop-i l =
    (l.past.items ≡ l.initial.past.items ++ take l.i l.log.tail)
    × (vec_len l.past + length l.log.tail ≤ vec_capacity l.past + l.i)
