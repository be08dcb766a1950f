use Rattle.std.proofs.Common.{◌≡◌, ◌==◌, true, take}
use Rattle.std.specs.List.{list_all}
use Rattle.mq_cli.proofs.threads.plan.most_behind.Given as goal

-- none so far has bytes
abbrev pub invariant-loop-taken : goal.invariant-loop-taken
invariant-loop-taken l = list_all (λ taken. taken.length == 0) (take l.taken-index l.came) ≡ true
