use Rattle.std.proofs.Common.{◌≡◌, ◌+◌, ◌-◌, ◌≤◌, length, vec_capacity}
use Rattle.mq_system.specs.Fronts.{AreRows}
use Rattle.mq_system.specs.Sizes.{all_changes}
use Rattle.mq_system.proofs.StartLemmas.{AreLast}
use Rattle.mq_system.proofs.parts.make_seats.Given as goal

-- the seats so far, the room for the others, the readers that are left, and the parts of the tally
abbrev pub invariant-loop-before : goal.invariant-loop-before
invariant-loop-before g l =
    (length l.seats.items ≡ l.before) × AreLast g.N.Names.slots l.initial.count l.seats.items
    × (l.initial.count ≤ vec_capacity l.seats) × (length l.rows ≡ length l.fn.rows)
    × AreRows (l.initial.count - l.before) l.rows
    × (l.tally.unused.parts + l.before ≡ g.N.Names.seats)
    × (l.tally.book.total ≡ all_changes g.N.Names.slots l.before)
