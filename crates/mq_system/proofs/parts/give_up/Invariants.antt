use Rattle.std.proofs.Common.{length}
use Rattle.mq_system.proofs.parts.give_up.Given as goal

abbrev pub decreases-loop-slot : goal.decreases-loop-slot
decreases-loop-slot g l = length l.slots.items
