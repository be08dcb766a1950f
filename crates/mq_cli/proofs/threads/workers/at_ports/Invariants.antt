use Rattle.std.proofs.Common.{◌≡◌, ◌≤◌, length, map, take, vec_len, vec_capacity}
use Rattle.mq_cli.proofs.threads.workers.at_ports.Given as goal

-- each plan so far has its port, and there is room for all
abbrev pub invariant-loop-place : goal.invariant-loop-place
invariant-loop-place g l =
    (vec_len l.jobs ≡ l.place) × (length l.plans ≤ vec_capacity l.jobs)
    × (map (λ job. job.plan.now) l.jobs.items ≡ map (λ plan. plan.items) (take l.place l.plans))
    × (map (λ job. job.port.now) l.jobs.items ≡ take l.place l.fn.ports)
