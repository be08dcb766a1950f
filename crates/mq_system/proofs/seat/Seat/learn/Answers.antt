use Rattle.std.proofs.Common.{rules, ◌≡◌, ◌<◌, length, MatchBool, slice_set, subst}
use Rattle.mq_system.specs.Seat.{IsLater, SeatState, front_of}
use Rattle.mq_system.proofs.SeatLemmas.{seat_later, seat_learned, seat_told, state}
use Rattle.mq_system.proofs.seat.Seat.learn.Goals as goal

pub invariant_of-self : goal.invariant_of-self
invariant_of-self g c =
    let had = c.self.inside in
    seat_learned g.N.Names.seats g.N.Names.slots had.number had.readers.items had.by_slot.items
    had.left.parts had.left.amount c.args.slot c.index_mut.result.now c.learn.new.self
    c.requires.slot c.self.invariant c.index_mut.ensures.value c.learn.ensures.later

pub returns-clause-later : goal.returns-clause-later
returns-clause-later g c =
    let had = c.self.inside in
    let readers = had.readers.items in
    let slot = c.args.slot in
    let counts = had.by_slot.items in
    subst (λ (old : SeatState).
    IsLater old (state had.number counts (slice_set readers slot c.learn.new.self)))
    c.self.view_is
    (seat_later g.N.Names.seats g.N.Names.slots had.number readers counts had.left.parts
    had.left.amount slot c.index_mut.result.now c.learn.new.self c.requires.slot
    c.self.invariant c.index_mut.ensures.value c.learn.ensures.later)

pub returns-clause-told : goal.returns-clause-told
returns-clause-told g c =
    let had = c.self.inside in
    let readers = had.readers.items in
    let slot = c.args.slot in
    let counts = had.by_slot.items in
    let events = c.args.told.events in
    let now = state had.number counts (slice_set readers slot c.learn.new.self) in
    let learned =
    subst (λ (old : SeatState).
    MatchBool c.learn.result (front_of now slot ≡ events)
    ((now ≡ old) × (length events < length (front_of old slot))))
    c.self.view_is
    (seat_told g.N.Names.seats g.N.Names.slots had.number readers counts had.left.parts
    had.left.amount slot c.index_mut.result.now c.learn.new.self c.requires.slot
    c.self.invariant c.index_mut.ensures.value c.learn.ensures.later events c.learn.result
    c.learn.ensures.told) in
    search (rules, learned)
