use Rattle.std.proofs.Common.{◌≡◌, All, vec_len}
use Rattle.mq_cli.specs.Plans.{IsCountable}
use Rattle.mq_cli_tests.proofs.workers.jobs.rising.Given as goal

-- a plan was made for each number so far
abbrev pub invariant-loop-number : goal.invariant-loop-number
invariant-loop-number l = (vec_len l.plans ≡ l.number) × All (λ plan. IsCountable plan.items) l.plans.items
