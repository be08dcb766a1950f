use Rattle.std.proofs.Common.{◌≡◌}
use Rattle.mq_calls.specs.Usages.{first_usage}
use Rattle.mq_local.proofs.one_thread.OneThread.info.Given as goal

-- the slots so far
abbrev pub invariant-loop-slot : goal.invariant-loop-slot
invariant-loop-slot g l = l.usage ≡ first_usage l.self l.slot
