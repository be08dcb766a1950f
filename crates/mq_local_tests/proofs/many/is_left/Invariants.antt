use Rattle.std.proofs.Common.{length}
use Rattle.mq_local_tests.proofs.many.is_left.Given as goal

-- each iteration removes one
abbrev pub invariant-loop-message : goal.invariant-loop-message
invariant-loop-message g l = Unit {0}

abbrev pub decreases-loop-message : goal.decreases-loop-message
decreases-loop-message g l = length l.messages.items
