use Rattle.std.proofs.Common.{◌≡◌, ◌+◌, take}
use Rattle.mq_cli.specs.Plans.{puts_in, takes_in, removes_in}
use Rattle.mq_cli.specs.contracts.threads.notes.StreamPartialEq.TheImpl.{eq-value}
use Rattle.mq_cli.proofs.FarLemmas.{IsFar}
use Rattle.mq_cli.proofs.threads.plan.work.Given as goal

-- all steps so far are done
abbrev pub invariant-loop-step : goal.invariant-loop-step
invariant-loop-step g l =
    (l.progress.sent ≡ puts_in (take l.step-index l.plan)) × (l.progress.received ≡ takes_in (take l.step-index l.plan))
    × (g.Q.Port.calls l.port ≡ g.Q.Port.calls l.fn.port + (l.progress.sent + l.progress.received + removes_in (take l.step-index l.plan)))
    × IsFar eq-value.it g.Q.Port.puts g.Q.Port.takes g.Q.Port.removes (take l.step-index l.plan) l.fn.port l.progress l.port
