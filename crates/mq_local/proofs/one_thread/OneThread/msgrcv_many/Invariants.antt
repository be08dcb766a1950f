use Rattle.std.proofs.Common.{◌≡◌, length, vec_capacity}
use Rattle.std.specs.List.{FoldsTo}
use Rattle.mq_local.specs.Many.{Receives, receive_of}
use Rattle.mq_local.proofs.one_thread.OneThread.msgrcv_many.Given as goal

-- the receipts so far, one after another, and that the room is the same
abbrev pub invariant-loop-done : goal.invariant-loop-done
invariant-loop-done g l =
    FoldsTo (Receives (receive_of l.seat l.id l.size l.fn.msgtyp l.except l.noerror l.moment))
    l.fn.self l.out.items l.self
    × (length l.out.items ≡ l._done) × (vec_capacity l.out ≡ vec_capacity l.fn.out)
