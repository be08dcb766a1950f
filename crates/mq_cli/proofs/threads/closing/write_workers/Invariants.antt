use Rattle.std.proofs.Common.{◌≡◌, ◌+◌, ◌++◌, drop}
use Rattle.mq_cli.specs.Closing.{worker_lines}
use Rattle.mq_cli.proofs.threads.closing.write_workers.Given as goal

-- the lines so far stand before those of the other workers
abbrev pub invariant-loop-place : goal.invariant-loop-place
invariant-loop-place l =
    l.out.items ++ worker_lines (l.place + 2) (drop l.place l.outcomes)
    ≡ l.initial.out.items ++ worker_lines 2 l.outcomes
