use Rattle.std.proofs.Common.{◌≡◌, ℕ, ◌+◌, ◌-◌, [], ◌∷◌, ◌++◌, arith, length, reverse, rules, slice_index_or, take, ap, sym, subst, ◌∙◌, length-append}
use Rattle.std.specs.Prelude.{vec_len}
use Rattle.std.specs.List.{All, sum_by}
use Rattle.std.proofs.lemmas.List.{length-reverse}
use mathlib.Core.List.{IsPrefix}
use Rattle.mq_table.specs.KeptPart.{whole}
use Rattle.mq_table.specs.Slot.{Waits}
use Rattle.mq_calls.specs.Closed.{IsEndOf}
use Rattle.mq_calls.specs.Texts.{bytes_of}
use Rattle.mq_system.specs.Seat.{counted_by, front_of}
use Rattle.mq_system.specs.Sizes.{all_changes}
use Rattle.mq_system.specs.Closed.{IsEnd, entries_in}
use Rattle.mq_system.specs.Shared.{LockedSlot}
use Rattle.mq_system.proofs.ClosedLemmas.{IsSeen, in_order, none_ended, one_ended, sums_agree, whole_length}
use Rattle.mq_system.proofs.HomeLemmas.{AreLeft, IsFewer, all_counted, all_distinct, all_left, all_seen, left_length, one_fewer}
use Rattle.mq_system.proofs.TallyLemmas.{entries_more, entries_reverse}
use Rattle.mq_system.proofs.system.System.close.Goals as goal

pub loop-monitor-init : goal.loop-monitor-init
loop-monitor-init g c =
    let none = c.self.invariant.none_closed in
    let slots = g.N.Names.slots in
    let seats = c.args.seats.items in
    let placed : length c.self.inside.monitors.items ≡ slots = omega (arith, c.self.invariant.placed) in (
      omega (arith, placed, ap length none),
      c.self.invariant.reserved,
      none_ended slots g.N.Names.last_seq seats c.self.inside.closed.items (ap length none),
      c.into_state-arena.ensures,
      omega (arith, ap length none),
      omega (arith, ap entries_in none),
      subst (λ n. AreLeft n seats c.gather.new.fronts.items) (sym placed)
          (all_left slots seats c.gather.new.fronts.items c.gather.ensures.fronts c.gather.ensures.recorded),
      (λ less. absurd (omega (arith, less, placed))),
    )

pub take_readers-requires : goal.take_readers-requires
take_readers-requires g c =
    let kept = c.loop-monitor.invariant in
    let m = length c.pop.new.self.items in
    let more : length c.loop-monitor.monitors.items ≡ m + 1 =
    omega (arith, ap length c.in-Some.ensures.items, length-append c.pop.new.self.items (c.in-Some.monitor ∷ [])) in
    let parts = c.into_parts-slot.ensures in
    let board : c.into_parts-slot.result.writer.board ≡ vec_len c.pop.new.self =
    cc (parts.shared.published.numbered, ap (λ s. s.whole.number) parts.slot, c.with_number.ensures.number, c.len.ensures) in
    let number : c.into_parts-slot.result.writer.board ≡ m = omega (arith, board) in
    record {
      number = λ k d low.
          omega (
            arith,
            number,
            more,
            left_length g.N.Names.slots (length c.loop-monitor.monitors.items) c.args.seats.items c.loop-monitor.fronts.items kept.6 c.gather.ensures.recorded (omega (arith, kept.0)) k d low,
          );
    }

-- the board's list is that of the slot, also once its readers are returned
pub end_shared_slot-requires-clause-kept : goal.end_shared_slot-requires-clause-kept
end_shared_slot-requires-clause-kept g c =
    rw (ap (λ w. w.events) c.take_readers.ensures.same) c.into_parts-slot.ensures.shared.published.kept

pub end_shared_slot-requires-clause-lawful : goal.end_shared_slot-requires-clause-lawful
end_shared_slot-requires-clause-lawful g c =
    rw (ap (λ w. w.events) c.take_readers.ensures.same) c.into_parts-slot.ensures.shared.lawful

pub end_shared_slot-requires-clause-waits : goal.end_shared_slot-requires-clause-waits
end_shared_slot-requires-clause-waits g c =
    let slot = c.into_parts-slot.result.slot in
    let had : Waits bytes_of (whole c.into_parts-slot.result.writer.events slot) =
    subst (λ (s : LockedSlot). Waits bytes_of s.whole) (sym c.into_parts-slot.ensures.slot)
    c.into_parts-slot.ensures.waits in
    subst (λ es. Waits bytes_of (whole es slot)) (sym (ap (λ w. w.events) c.take_readers.ensures.same))
    had

pub loop-monitor-preserved : goal.loop-monitor-preserved
loop-monitor-preserved g c =
    let slots = g.N.Names.slots in
    let seats = c.args.seats.items in
    let m = length c.pop.new.self.items in
    let events = c.into_parts-slot.result.writer.events in
    let ended = c.into_parts-slot.ensures.shared in
    let grown = c.push_reserved.ensures in
    let before = c.loop-monitor.closed.items in
    let closed = c.end_shared_slot.result in
    let is : IsEndOf g.N.Names.last_seq events closed =
    subst (λ es. IsEndOf g.N.Names.last_seq es closed) (ap (λ w. w.events) c.take_readers.ensures.same)
    c.end_shared_slot.ensures.ends in
    let kept = c.loop-monitor.invariant in
    let longer = length-append before (closed ∷ []) in
    let more : length c.loop-monitor.monitors.items ≡ m + 1 =
    omega (arith, ap length c.in-Some.ensures.items, length-append c.pop.new.self.items (c.in-Some.monitor ∷ [])) in
    let left : AreLeft (m + 1) seats c.loop-monitor.fronts.items =
    subst (λ n. AreLeft n seats c.loop-monitor.fronts.items) more kept.6 in
    let fewer : IsFewer m events seats c.take_readers.new.fronts.items =
    one_fewer slots m events seats c.loop-monitor.fronts.items c.take_readers.new.fronts.items c.gather.ensures.recorded (omega (arith, kept.0, more)) left c.take_readers.ensures.left in
    let place : m ≡ slots - 1 - length before = omega (arith, kept.0, more) in
    let seen : IsSeen slots seats (length before) events =
    subst (λ k. All (λ s. IsPrefix (front_of s k) events) seats) place fewer.seen in (
      omega (arith, more, ap length grown.items, longer, kept.0),
      omega (arith, grown.capacity, kept.1),
      rw grown.items (one_ended slots g.N.Names.last_seq seats before kept.2 events closed is seen),
      c.end_shared_slot.ensures.height ∙ kept.3,
      omega (arith, ap length grown.items, longer, c.merge.ensures.parts, ended.part, kept.4),
      omega (arith, ap entries_in grown.items, entries_more before closed, whole_length events closed is.kept, c.merge.ensures.amount, ended.noted, kept.5),
      fewer.left,
      (λ less. all_distinct (m + 1) seats c.loop-monitor.fronts.items left c.take_readers.ensures.places),
    )

pub returns-clause-total : goal.returns-clause-total
returns-clause-total g c =
    let kept = c.loop-monitor.invariant in
    omega (arith, ap entries_in c.reverse.ensures.items, entries_reverse c.loop-monitor.closed.items, kept.5, c.gather.ensures.amount, c.empty-parts.ensures.amount, c.settle.ensures, c.self.invariant.settled, ap (λ n. all_changes g.N.Names.slots n) c.requires.seats)

pub returns-clause-numbers : goal.returns-clause-numbers
returns-clause-numbers g c =
    let kept = c.loop-monitor.invariant in
    let last = c.in_default.ensures.rest
    ∙ ap (λ (n : ℕ). take (n - 1) c.loop-monitor.monitors.items) c.in_default.ensures.cases.0 in
    let none : length c.loop-monitor.monitors.items ≡ 0 =
    ap length (c.in_default.ensures.items ∙ ap (λ rest. rest ++ []) last) in
    kept.7 (omega (arith, none, c.self.invariant.some))

pub returns-clause-ends : goal.returns-clause-ends
returns-clause-ends g c =
    let slots = g.N.Names.slots in
    let last_seq = g.N.Names.last_seq in
    let seats = c.args.seats.items in
    let closed = c.loop-monitor.closed.items in
    let kept = c.loop-monitor.invariant in
    let last = c.in_default.ensures.rest
    ∙ ap (λ (n : ℕ). take (n - 1) c.loop-monitor.monitors.items) c.in_default.ensures.cases.0 in
    let none : length c.loop-monitor.monitors.items ≡ 0 =
    ap length (c.in_default.ensures.items ∙ ap (λ rest. rest ++ []) last) in
    let ended = kept.2 in
    let all : length ended.lists ≡ slots = omega (arith, ended.ends.count, kept.0, none) in
    let ends = in_order slots last_seq seats closed ended in
    let seen = all_seen slots seats ended.lists all ended.seen in
    let total : sum_by length (reverse ended.lists) ≡ counted_by seats =
    omega (arith, sums_agree last_seq (reverse ended.lists) (reverse closed) ends, entries_reverse closed, kept.5, c.gather.ensures.amount, c.empty-parts.ensures.amount, c.settle.ensures, c.self.invariant.settled, ap (λ n. all_changes slots n) c.requires.seats) in
    let told : IsEnd last_seq seats (reverse closed) = record {
      lists = reverse ended.lists;
      ends = ends;
      seen = seen;
      counted =
          all_counted slots seats (reverse ended.lists) (length-reverse ended.lists ∙ all) c.gather.ensures.recorded
          (kept.7 (omega (arith, none, c.self.invariant.some))) seen total;
    } in
    let is : IsEnd last_seq seats c.reverse.new.self.items = rw c.reverse.ensures.items told in
    search (rules, is)

pub returns-clause-closed : goal.returns-clause-closed
returns-clause-closed g c k d low =
    let end = returns-clause-ends g c in
    record { list = slice_index_or end.lists k []; is = end.ends.each k [] d low }
