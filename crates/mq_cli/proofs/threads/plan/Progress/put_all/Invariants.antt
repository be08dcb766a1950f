use Rattle.std.proofs.Common.{◌≡◌, ◌+◌, ◌≤◌, [], None}
use Rattle.mq_cli.specs.Calls.{sends_after}
use Rattle.mq_cli.specs.Works.{AreCalled}
use Rattle.mq_cli.proofs.threads.plan.Progress.put_all.Given as goal

-- as many were sent as there were rounds, and each by a call
abbrev pub invariant-loop : goal.invariant-loop
invariant-loop g l =
    (l.counter ≤ l.count) × (l.self.sent ≡ l.fn.self.sent + l.counter) × (l.self.received ≡ l.fn.self.received)
    × (g.Q.Port.calls l.port + l.fn.self.sent ≡ g.Q.Port.calls l.fn.port + l.self.sent)
    × (l.self.notes ≡ l.fn.self.notes)
    × AreCalled g.Q.Port.puts g.Q.Port.takes g.Q.Port.removes (sends_after l.fn.self.sent l.call.id l.call.mtype l.counter l.call.length g.T.Patience.ends l.call.moment) l.fn.port l.counter [] None l.port
