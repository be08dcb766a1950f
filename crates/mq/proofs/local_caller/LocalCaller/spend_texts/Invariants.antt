use Rattle.std.proofs.Common.{◌≡◌}
use Rattle.std.specs.VecDeque.{deque_len}
use Rattle.mq.specs.LocalBatches.{texts_spent}
use Rattle.mq.proofs.local_caller.LocalCaller.spend_texts.Given as goal

-- once those that are left are spent too, all are
abbrev pub invariant-loop-delivered : goal.invariant-loop-delivered
invariant-loop-delivered g l =
    (texts_spent l.texts.items l.self.of.now.queues
    ≡ texts_spent l.fn.texts.items l.fn.self.of.now.queues)
    × (l.self.seat ≡ l.fn.self.seat)
    × (l.self.of.now.moment ≡ l.fn.self.of.now.moment)
    × (l.self.of.ghost_name ≡ l.fn.self.of.ghost_name)

abbrev pub decreases-loop-delivered : goal.decreases-loop-delivered
decreases-loop-delivered g l = deque_len l.texts
