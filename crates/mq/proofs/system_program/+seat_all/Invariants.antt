use Rattle.std.proofs.Common.{length}
use Rattle.mq.proofs.system_program.+seat_all.Given as goal

-- the seats that are left
abbrev pub decreases-seat_all : goal.decreases-seat_all
decreases-seat_all g l = length l.seats.now.items
