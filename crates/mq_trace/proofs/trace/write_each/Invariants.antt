use Rattle.std.proofs.Common.{drop, map}
use Rattle.mq_trace.specs.Records.{refusal_record}
use Rattle.mq_trace.proofs.Sheets.{SoFar}
use Rattle.mq_trace.proofs.trace.write_each.Given as goal

-- the records of the calls that are left are still to be written
abbrev pub invariant-loop-refusal : goal.invariant-loop-refusal
invariant-loop-refusal g l =
    SoFar (g.W.Write.contents l.fn.writer) (g.W.Write.contents l.writer) l.fn.sheet l.sheet
    (map refusal_record l.refusals) (map refusal_record (drop l.refusal-index l.refusals))
