use Rattle.std.proofs.Common.{length}
use Rattle.mq_local_caller_tests.proofs.local_batches.spend_all.Given as goal

-- each iteration removes one
abbrev pub invariant-loop-letter : goal.invariant-loop-letter
invariant-loop-letter g l = Unit {0}

abbrev pub decreases-loop-letter : goal.decreases-loop-letter
decreases-loop-letter g l = length l.letters.items
