use Rattle.std.proofs.Common.{take}
use Rattle.mq_cli.specs.MainPart.{WroteAll}
use Rattle.mq_cli.proofs.threads.main_part.run_main.Given as goal

-- the calls so far have their replies written
abbrev pub invariant-loop-call : goal.invariant-loop-call
invariant-loop-call g l =
    WroteAll g.N.Names.slots g.N.Names.last_seq (take l.call-index l.calls) l.initial.seat l.seat
    (g.W.Write.contents l.initial.writer) (g.W.Write.contents l.writer)
