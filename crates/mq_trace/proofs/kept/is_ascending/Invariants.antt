use Rattle.mq_trace.specs.Walk.{IsAscendingTo}
use Rattle.mq_trace.proofs.kept.is_ascending.Given as goal

-- the messages so far are in the order of places
abbrev pub invariant-loop-i : goal.invariant-loop-i
invariant-loop-i l = IsAscendingTo l.i l.waiting
