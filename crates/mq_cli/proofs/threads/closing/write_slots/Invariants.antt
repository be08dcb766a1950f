use Rattle.std.proofs.Common.{◌≡◌, ◌++◌, drop}
use Rattle.mq_cli.specs.Closing.{slot_lines}
use Rattle.mq_cli.proofs.threads.closing.write_slots.Given as goal

-- the lines so far stand before those of the other slots
abbrev pub invariant-loop-number : goal.invariant-loop-number
invariant-loop-number l =
    l.out.items ++ slot_lines l.number (drop l.number l.slots)
    ≡ l.initial.out.items ++ slot_lines 0 l.slots
