use Rattle.std.proofs.Common.{◌≡◌, ◌+◌, ◌≤◌, length, vec_capacity}
use Rattle.mq_board.specs.Named.{AreNamed}
use Rattle.mq_system.specs.Fronts.{AreRows}
use Rattle.mq_system.specs.Started.{AreEmpty}
use Rattle.mq_system.proofs.parts.make_slots.Given as goal

-- the slots and the readers so far, the room for the others, and the boards and the parts of the
-- tally that are left
abbrev pub invariant-loop-number : goal.invariant-loop-number
invariant-loop-number g l =
    (length l.slots.items ≡ l.number) × (length l.rows.items ≡ l.number)
    × AreEmpty l.slots.items × AreRows l.fn.config.seats l.rows.items
    × (l.fn.config.slots ≤ vec_capacity l.slots) × (l.fn.config.slots ≤ vec_capacity l.rows)
    × (length l.boards.items + l.number ≡ l.fn.config.slots)
    × AreNamed g.N.Naming.board g.N.Naming.roll l.number l.boards.items
    × (l.arena ≡ l.fn.arena)
    × (l.tally.unused.parts + l.number ≡ g.N.Names.slots + g.N.Names.seats)
    × (l.tally.book.total ≡ l.fn.tally.book.total)
