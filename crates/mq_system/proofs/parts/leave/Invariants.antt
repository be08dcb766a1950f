use Rattle.std.proofs.Common.{length}
use Rattle.mq_system.proofs.parts.leave.Given as goal

abbrev pub decreases-loop-seat : goal.decreases-loop-seat
decreases-loop-seat g l = length l.seats.items
