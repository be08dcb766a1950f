use Rattle.std.proofs.Common.{true}
use Rattle.mq_trace.specs.Steps.{steps_from, steps_of}
use Rattle.mq_trace.specs.Trace.{slot_records}
use Rattle.mq_trace.proofs.Sheets.{SoFar}
use Rattle.mq_trace.proofs.trace.write_slot.Given as goal

-- the records of the steps that are left are still to be written
abbrev pub invariant-loop-step : goal.invariant-loop-step
invariant-loop-step g l =
    (goal.iterator-loop-step g).can_next l.step-iterator
    × (goal.iterator-loop-step g).is_finite l.step-iterator
    × SoFar (g.W.Write.contents l.fn.writer) (g.W.Write.contents l.writer) l.fn.sheet l.sheet
    (slot_records l.scale true (steps_of l.fn.slot))
    (slot_records l.scale l.first (steps_from l.step-iterator.at l.step-iterator.rest))
