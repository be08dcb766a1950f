use Rattle.std.specs.VecDeque.{deque_len}
use Rattle.mq_system_tests.proofs.magazines.spend_rest.Given as goal

abbrev pub decreases-loop-letter : goal.decreases-loop-letter
decreases-loop-letter g l = deque_len l.letters
