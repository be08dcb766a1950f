use Rattle.std.proofs.Common.{◌≡◌, ◌++◌}
use Rattle.mq_message.specs.Waiting.{headers_of}
use Rattle.mq_select.specs.ByType.{gathered}
use Rattle.mq_select.proofs.queues.gather.Given as goal

abbrev pub invariant-loop-queue : goal.invariant-loop-queue
invariant-loop-queue g l =
    l.headers.items ++ headers_of g.B.Body.bytes (gathered l.rest) ≡ l.initial.headers.items ++ headers_of g.B.Body.bytes (gathered l.queues.entries)
