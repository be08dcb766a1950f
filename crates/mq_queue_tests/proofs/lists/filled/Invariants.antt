use Rattle.std.proofs.Common.{All, ◌<◌}
use Rattle.mq_queue_tests.proofs.lists.filled.Given as goal

abbrev pub invariant-loop-i : goal.invariant-loop-i
invariant-loop-i g l = All (λ m. m.0 < l.i) (g.W.Waiting.messages l.list)
