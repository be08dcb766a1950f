use Rattle.std.specs.VecDeque.{deque_len}
use Rattle.mq_system.proofs.pages.magazines.Magazines.put_all.Given as goal

abbrev pub decreases-loop-block : goal.decreases-loop-block
decreases-loop-block g l = deque_len l.texts
