use Rattle.std.proofs.Common.{drop}
use Rattle.mq_trace.specs.Trace.{slots_records}
use Rattle.mq_trace.proofs.Sheets.{SoFar}
use Rattle.mq_trace.proofs.trace.write_slots.Given as goal

-- the records of the slots that are left are still to be written
abbrev pub invariant-loop-slot : goal.invariant-loop-slot
invariant-loop-slot g l =
    SoFar (g.W.Write.contents l.fn.writer) (g.W.Write.contents l.writer) l.fn.sheet l.sheet
    (slots_records l.scale l.slots) (slots_records l.scale (drop l.slot-index l.slots))
