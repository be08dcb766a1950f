use Rattle.std.proofs.Common.{◌≡◌, ◌++◌, drop}
use Rattle.mq_trace.specs.Ipcs.{queue_rows}
use Rattle.mq_trace.proofs.ipcs.write_rows.Given as goal

-- the lines so far stand before those of the other slots
abbrev pub invariant-loop-slot : goal.invariant-loop-slot
invariant-loop-slot l =
    l.out.items ++ queue_rows l.keys l.slot (drop l.slot l.rows)
    ≡ l.initial.out.items ++ queue_rows l.keys 0 l.rows
