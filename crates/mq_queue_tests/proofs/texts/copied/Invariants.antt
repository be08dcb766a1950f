use Rattle.std.proofs.Common.{◌≡◌, length}
use Rattle.mq_queue_tests.proofs.texts.copied.Given as goal

abbrev pub invariant-loop-i : goal.invariant-loop-i
invariant-loop-i g l = length l.copy.bytes ≡ length l.text.bytes
