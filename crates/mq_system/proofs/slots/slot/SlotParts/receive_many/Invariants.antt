use Rattle.std.proofs.Common.{◌≡◌, All, length, vec_capacity}
use Rattle.std.specs.List.{FoldsTo}
use Rattle.mq_table.specs.Ids.{slot_of}
use Rattle.mq_system.specs.Pledge.{MeetsItsPledge}
use Rattle.mq_system.specs.Many.{Changes, receive_of, under_all}
use Rattle.mq_system.specs.Shared.{IsBehind, locked}
use Rattle.mq_system.proofs.slots.slot.SlotParts.receive_many.Given as goal

-- the receipts so far, one after another, which are not published yet; the room is the same
abbrev pub invariant-loop-done : goal.invariant-loop-done
invariant-loop-done g l =
    FoldsTo (Changes (receive_of l.request.id l.request.size l.request.selection l.request.noerror l.request.moment))
    (record { slot = locked l.fn.self.writer.events l.fn.self.slot; seat = l.fn.seat }) l.out.items
    (under_all l.self.writer.events l.self.slot l.fn.seat)
    × (slot_of l.request.id ≡ l.self.slot.number)
    × (length l.out.items ≡ l._done) × (vec_capacity l.out ≡ vec_capacity l.fn.out)
    × All (MeetsItsPledge g.P.Pledge.kept l.request.size l.request.noerror) l.out.items
    × (l.self.writer ≡ l.fn.self.writer)
    × IsBehind g.P.Pledge.kept g.N.Names.slots g.N.Names.last_seq l.fn.seat.number l.self.writer
    l.self.slot l.self.entries.parts l.self.entries.amount
