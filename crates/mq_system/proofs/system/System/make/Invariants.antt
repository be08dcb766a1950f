use Rattle.std.proofs.Common.{◌≡◌}
use Rattle.mq_system.specs.Outcome.{IsLook}
use Rattle.mq_system.specs.Get.{IsNotFree, WasBelow}
use Rattle.mq_system.proofs.system.System.make.Given as goal

-- no slot so far was free
abbrev pub invariant-loop-number : goal.invariant-loop-number
invariant-loop-number g l =
    (l.keys ≡ l.fn.keys) × IsLook l.fn.seat l.seat
    × WasBelow (IsNotFree g.N.Names.last_seq) l.fn.seat l.seat l.number
