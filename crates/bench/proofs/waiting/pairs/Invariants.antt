use Rattle.std.proofs.Common.{All, ◌<◌, ◌+◌}
use Rattle.bench.proofs.waiting.pairs.Given as goal

abbrev pub invariant-loop-i : goal.invariant-loop-i
invariant-loop-i g l = All (λ m. m.0 < l.plan.waiting + l.i) (g.W.Waiting.messages l.list)
