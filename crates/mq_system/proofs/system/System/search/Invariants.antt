use Rattle.mq_system.specs.Making.{Lacks}
use Rattle.mq_system.specs.Outcome.{IsLook}
use Rattle.mq_system.specs.Get.{WasBelow}
use Rattle.mq_system.proofs.system.System.search.Given as goal

-- no slot so far had a queue with the key
abbrev pub invariant-loop-number : goal.invariant-loop-number
invariant-loop-number g l =
    IsLook l.fn.seat l.seat × WasBelow (Lacks l.initial.key) l.fn.seat l.seat l.number
