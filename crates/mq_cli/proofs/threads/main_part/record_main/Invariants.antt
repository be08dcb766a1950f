use Rattle.std.proofs.Common.{take}
use Rattle.mq_cli.specs.RecordedThreads.{RecordedMain}
use Rattle.mq_cli.proofs.threads.main_part.record_main.Given as goal

-- the refusals so far are those of the calls so far
abbrev pub invariant-loop-call : goal.invariant-loop-call
invariant-loop-call g l =
    RecordedMain g.N.Names.slots g.N.Names.last_seq (take l.call-index l.calls) l.refusals.items
    l.initial.seat l.seat
