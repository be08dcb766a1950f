use Rattle.std.proofs.Common.{◌≡◌, []}
use Rattle.mq_queue.specs.Base.{base_of}
use Rattle.mq_board_tests.proofs.looking.follow.Given as goal

-- what was published is the queue's log, and nothing is pending
abbrev pub invariant-loop : goal.invariant-loop
invariant-loop g l = (l.queue.base ≡ base_of [])
    × (l.writer.events ≡ l.queue.tail) × (l.writer.pending ≡ [])
