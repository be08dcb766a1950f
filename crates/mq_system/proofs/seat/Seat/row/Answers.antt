use Rattle.std.proofs.Common.{rules, slice_set, subst}
use Rattle.mq_system.specs.Seat.{IsLater, SeatState}
use Rattle.mq_system.proofs.SeatLemmas.{front_is, others_are, seat_later, seat_learned, state}
use Rattle.mq_system.proofs.seat.Seat.row.Goals as goal

pub invariant_of-self : goal.invariant_of-self
invariant_of-self g c =
    let had = c.self.inside in
    seat_learned g.N.Names.seats g.N.Names.slots had.number had.readers.items had.by_slot.items
    had.left.parts had.left.amount c.args.slot c.index_mut.result.now c.row.new.self
    c.requires.slot c.self.invariant c.index_mut.ensures.value c.row.ensures.later

pub returns-clause-later : goal.returns-clause-later
returns-clause-later g c =
    let had = c.self.inside in
    let readers = had.readers.items in
    let slot = c.args.slot in
    let counts = had.by_slot.items in
    subst (λ (old : SeatState).
    IsLater old (state had.number counts (slice_set readers slot c.row.new.self)))
    c.self.view_is
    (seat_later g.N.Names.seats g.N.Names.slots had.number readers counts had.left.parts
    had.left.amount slot c.index_mut.result.now c.row.new.self c.requires.slot
    c.self.invariant c.index_mut.ensures.value c.row.ensures.later)

pub returns-clause-others : goal.returns-clause-others
returns-clause-others g c =
    let had = c.self.inside in
    rw (← c.self.view_is)
    (others_are g.N.Names.seats g.N.Names.slots had.number had.readers.items had.by_slot.items
    had.left.parts had.left.amount c.args.slot c.index_mut.result.now c.row.new.self
    c.requires.slot c.self.invariant c.index_mut.ensures.value c.row.ensures.later)

pub returns-clause-row : goal.returns-clause-row
returns-clause-row g c =
    let had = c.self.inside in
    rw (front_is g.N.Names.seats g.N.Names.slots had.number had.readers.items had.by_slot.items
    had.left.parts had.left.amount c.args.slot c.index_mut.result.now c.row.new.self
    c.requires.slot c.self.invariant c.index_mut.ensures.value c.row.ensures.later)
    (search (rules, c.row.ensures.row))
