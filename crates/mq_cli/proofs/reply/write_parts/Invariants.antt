use Rattle.std.proofs.Common.{◌≡◌, ◌++◌}
use Rattle.std.specs.List.{concat}
use Rattle.mq_cli.proofs.reply.write_parts.Given as goal

-- the parts that are left are what is still to be written
abbrev pub invariant-loop-part : goal.invariant-loop-part
invariant-loop-part g l =
    (goal.iterator-loop-part g).can_next l.part-iterator
    × (goal.iterator-loop-part g).is_finite l.part-iterator
    × (l.out.items ++ concat l.part-iterator ≡ l.fn.out.items ++ l.text.bytes)
