use Rattle.std.proofs.Common.{◌≡◌, vec_len}
use Rattle.mq_cli_tests.proofs.workers.jobs.ports.Given as goal

-- a port was created in each iteration
abbrev pub invariant-loop : goal.invariant-loop
invariant-loop l = vec_len l.ports ≡ l.counter
