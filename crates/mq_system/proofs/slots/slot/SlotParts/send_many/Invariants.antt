use Rattle.std.proofs.Common.{◌≡◌, List, ◌++◌, All, length}
use Rattle.std.specs.List.{FoldsTo}
use Rattle.mq_arena.specs.Text.{PlainText}
use Rattle.mq_table.specs.Ids.{slot_of}
use Rattle.mq_system.specs.Many.{Sends, under_all}
use Rattle.mq_system.specs.declared.many.Letter.{Letter}
use Rattle.mq_system.specs.Shared.{IsBehind, locked}
use Rattle.mq_system.proofs.slots.slot.SlotParts.send_many.Given as goal

-- the letters sent so far, one after another, whose entries are not published yet
abbrev pub invariant-loop-done : goal.invariant-loop-done
invariant-loop-done g l =
    (sent : List (Letter PlainText)) × (l.fn.letters.items ≡ sent ++ l.letters.items)
    × FoldsTo (Sends l.id l.moment) (record { slot = locked l.fn.self.writer.events l.fn.self.slot; seat = l.fn.seat }) sent
    (under_all l.self.writer.events l.self.slot l.fn.seat)
    × (slot_of l.id ≡ l.self.slot.number)
    × All (λ x. g.P.Pledge.kept l.fn.seat.number x.tag x.mtype x.text.bytes) l.letters.items
    × (length sent ≡ l._done) × (l.self.writer ≡ l.fn.self.writer)
    × IsBehind g.P.Pledge.kept g.N.Names.slots g.N.Names.last_seq l.fn.seat.number l.self.writer
    l.self.slot l.self.entries.parts l.self.entries.amount
