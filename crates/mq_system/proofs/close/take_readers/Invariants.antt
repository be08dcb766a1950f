use Rattle.std.proofs.Common.{◌≡◌}
use Rattle.mq_system.proofs.HomeLemmas.{AreHandedOut}
use Rattle.mq_system.proofs.close.take_readers.Given as goal

-- the board stays, and the seats so far have returned their readers of it
abbrev pub invariant-loop-seat : goal.invariant-loop-seat
invariant-loop-seat g l =
    (l.writer ≡ record l.fn.writer { home = l.writer.home })
    × AreHandedOut l.fn.writer.events l.seat l.fn.fronts.items l.fronts.items l.writer.home
