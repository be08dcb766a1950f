use Rattle.std.proofs.Common.{◌≡◌, ◌≤◌, ◌<◌, ◌-◌, true, min}
use Rattle.mq_queue.specs.declared.limits.TheConstants.{MSGMAX}
use Rattle.mq.proofs.local_messages.take.Given as goal

-- how much the room may still grow
abbrev pub decreases-loop-id : goal.decreases-loop-id
decreases-loop-id g l = l.most - l.size

-- nothing was received so far, and there is room for some bytes, or for all where a longer text is
-- truncated
abbrev pub invariant-loop-id : goal.invariant-loop-id
invariant-loop-id g l =
    (l.queues ≡ l.fn.queues)
    × (l.room.items ≡ l.fn.room.items)
    × (l.size ≤ l.most)
    × (0 < l.most → 0 < l.size)
    × (l.fn.call.options.noerror ≡ true → l.size ≡ min l.most MSGMAX)
