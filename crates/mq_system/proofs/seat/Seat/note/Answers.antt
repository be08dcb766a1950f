use Rattle.std.proofs.Common.{◌≡◌, ◌∙◌, ℕ, ◌+◌, ◌≤◌, ◌*◌, rules, arith, ap, refl, slice_index, slice_set}
use Rattle.std.proofs.lemmas.List.{get_or_default}
use Rattle.std.proofs.lemmas.List.Sums.{sum_by-set}
use Rattle.mq_system.specs.Fronts.{fronts_of}
use Rattle.mq_system.specs.declared.seat.TheConstants.{MAX_COUNT}
use Rattle.mq_system.specs.Seat.{noted_more}
use Rattle.mq_system.proofs.NoteLemmas.{same_seat}
use Rattle.mq_system.proofs.SeatLemmas.{count_fits, fronts_are, room_left, seat_learned, seat_noted, state}
use Rattle.mq_system.proofs.seat.Seat.note.Goals as goal

-- its counts can grow, and so as much is left of its part
pub transfer-requires-clause-has_amount : goal.transfer-requires-clause-has_amount
transfer-requires-clause-has_amount g c =
    let had = c.self.inside in
    let counts = had.by_slot.items in
    let kept = c.self.invariant in
    let fits : slice_index counts c.args.slot + c.args.count ≤ MAX_COUNT =
    count_fits g.N.Names.slots had.number (fronts_of had.readers.items) counts c.args.slot c.args.count c.args.told.events kept.known c.requires.slot (rw (← c.self.view_is) at c.requires.next) c.requires.room in
    omega (arith, kept.left, ap (λ n. n * MAX_COUNT) kept.each, room_left counts c.args.slot c.args.count kept.bounded (rw kept.each c.requires.slot) fits)

pub overflow_add-index_mut : goal.overflow_add-index_mut
overflow_add-index_mut g c =
    let had = c.self.inside in
    let counts = had.by_slot.items in
    let kept = c.self.invariant in
    let count : c.index_mut.result.now ≡ slice_index counts c.args.slot =
    cc (c.index_mut.ensures.value, get_or_default counts c.args.slot c.index_mut.result.now 0 (rw kept.each c.requires.slot)) in
    let fits : slice_index counts c.args.slot + c.args.count ≤ MAX_COUNT =
    count_fits g.N.Names.slots had.number (fronts_of had.readers.items) counts c.args.slot c.args.count c.args.told.events kept.known c.requires.slot (rw (← c.self.view_is) at c.requires.next) c.requires.room in
    omega (arith, count, fits)

pub invariant_of-self : goal.invariant_of-self
invariant_of-self g c =
    let had = c.self.inside in
    let readers = had.readers.items in
    let counts = had.by_slot.items in
    let kept = c.self.invariant in
    let before = c.index_mut-2.result.now in
    let after = c.learn.new.self in
    let is = c.index_mut-2.ensures.value in
    let learned = seat_learned g.N.Names.seats g.N.Names.slots had.number readers counts
    had.left.parts had.left.amount c.args.slot before after c.requires.slot kept is
    c.learn.ensures.later in
    let count : c.index_mut.result.now ≡ slice_index counts c.args.slot =
    cc (c.index_mut.ensures.value, get_or_default counts c.args.slot c.index_mut.result.now 0 (rw kept.each c.requires.slot)) in
    let fits : slice_index counts c.args.slot + c.args.count ≤ MAX_COUNT =
    count_fits g.N.Names.slots had.number (fronts_of readers) counts c.args.slot c.args.count c.args.told.events kept.known c.requires.slot (rw (← c.self.view_is) at c.requires.next) c.requires.room in
    let told = rw c.if-not-learn.false at c.learn.ensures.told in record {
      some = learned.some;
      few = learned.few;
      few_slots = learned.few_slots;
      each = search rules;
      readers_each = learned.readers_each;
      placed = learned.placed;
      part = search rules;
      bounded = search rules;
      left =
          omega (arith, kept.left, c.transfer.ensures.amount_left, count, sum_by-set (λ (n : ℕ). n) counts c.args.slot (c.index_mut.result.now + c.args.count) 0 (rw kept.each c.requires.slot));
      known =
          rw count
          (seat_noted g.N.Names.seats g.N.Names.slots had.number readers counts had.left.parts
          had.left.amount c.args.slot before after c.requires.slot kept is c.learn.ensures.later
          c.args.told.events c.args.count told.0 (rw (← c.self.view_is) at c.requires.next));
    }

pub returns-clause-noted : goal.returns-clause-noted
returns-clause-noted g c =
    let had = c.self.inside in
    let readers = had.readers.items in
    let counts = had.by_slot.items in
    let told = rw c.if-not-learn.false at c.learn.ensures.told in
    let count : c.index_mut.result.now ≡ slice_index counts c.args.slot =
    cc (c.index_mut.ensures.value, get_or_default counts c.args.slot c.index_mut.result.now 0 (rw c.self.invariant.each c.requires.slot)) in
    rw (← c.self.view_is)
    (same_seat _ (noted_more (state had.number counts readers) c.args.slot c.args.count c.args.told.events) refl
    (ap (λ n. slice_set counts c.args.slot (n + c.args.count)) count)
    (fronts_are g.N.Names.seats g.N.Names.slots had.number readers counts
    had.left.parts had.left.amount c.args.slot c.index_mut-2.result.now c.learn.new.self
    c.requires.slot c.self.invariant c.index_mut-2.ensures.value c.learn.ensures.later
    ∙ ap (slice_set (fronts_of readers) c.args.slot) told.0))
