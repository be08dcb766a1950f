use Rattle.std.proofs.Common.{◌≡◌, ◌+◌, ◌-◌, ◌<◌, ◌≤◌, replicate, None}
use Rattle.mq_cli.specs.Calls.{receive}
use Rattle.mq_cli.specs.Progress.{ComesFurther}
use Rattle.mq_cli.specs.contracts.threads.notes.StreamPartialEq.TheImpl.{eq-value}
use Rattle.mq_cli.proofs.threads.plan.Progress.take_all.Given as goal

-- so many were received, each by a call
abbrev pub invariant-loop-done : goal.invariant-loop-done
invariant-loop-done g l =
    (l.done ≤ l.all) × (0 < l.most) × (l.self.sent ≡ l.fn.self.sent) × (l.self.received ≡ l.fn.self.received + l.done)
    × (g.Q.Port.calls l.port + l.fn.self.received ≡ g.Q.Port.calls l.fn.port + l.self.received)
    × ComesFurther eq-value.it g.Q.Port.puts g.Q.Port.takes g.Q.Port.removes (replicate l.done (receive l.call.id l.call.msgtyp g.T.Patience.ends l.call.moment)) l.fn.port l.port l.fn.self l.self None

abbrev pub decreases-loop-done : goal.decreases-loop-done
decreases-loop-done g l = l.all - l.done
