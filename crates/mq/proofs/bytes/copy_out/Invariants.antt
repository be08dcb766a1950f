use Rattle.std.proofs.Common.{◌≡◌, ◌+◌, ◌≤◌, ◌++◌, length, vec_len, vec_capacity}
use Rattle.std.specs.List.{concat}
use Rattle.mq.proofs.bytes.copy_out.Given as goal

-- what is copied stands before the parts that are left, for which there is room
abbrev pub invariant-loop-part : goal.invariant-loop-part
invariant-loop-part g l =
    (l.bytes.items ++ concat l.part-iterator ≡ l.initial.bytes.items ++ l.fn.text.bytes)
    × (vec_len l.bytes + length (concat l.part-iterator) ≤ vec_capacity l.bytes)
    × (vec_capacity l.initial.bytes ≤ vec_capacity l.bytes)
