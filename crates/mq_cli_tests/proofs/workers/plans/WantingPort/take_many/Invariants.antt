use Rattle.std.proofs.Common.{◌≡◌, ◌+◌, length, vec_len, vec_capacity}
use Rattle.mq_cli_tests.proofs.workers.plans.WantingPort.take_many.Given as goal

-- as many messages were received as there were iterations
abbrev pub invariant-loop : goal.invariant-loop
invariant-loop g l =
    (length l.out.items ≡ l.counter) × (vec_len l.out ≡ l.counter) × (vec_capacity l.out ≡ vec_capacity l.fn.out) × (l.self.calls ≡ l.fn.self.calls + l.counter)
