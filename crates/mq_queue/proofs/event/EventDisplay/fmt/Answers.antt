use Rattle.std.proofs.Common.{rules}
use Rattle.mq_queue.proofs.event.EventDisplay.fmt.Goals as goal

pub returns-in-Received-clause-writes : goal.returns-in-Received-clause-writes
returns-in-Received-clause-writes g c =
    rw (c.in-Received.is) (search (rules, c.write-in-Received.ensures.writes))
