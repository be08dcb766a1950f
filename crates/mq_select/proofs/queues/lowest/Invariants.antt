use Rattle.std.proofs.Common.{◌≡◌, find}
use Rattle.mq_select.specs.ByType.{some_wait}
use Rattle.mq_select.proofs.queues.lowest.Given as goal

abbrev pub invariant-loop-mtype : goal.invariant-loop-mtype
invariant-loop-mtype g l = find (λ q. some_wait q.1) l.queues.entries ≡ find (λ q. some_wait q.1) l.rest
