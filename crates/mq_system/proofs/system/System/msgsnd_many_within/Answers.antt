use Rattle.std.proofs.Common.{rules, ◌≡◌, ◌<◌, ◌≤◌, Bool, true, nat_lt, arith, length, None, Some, ap, refl, ◌∙◌, subst}
use Rattle.mq_table.specs.Ids.{slot_of}
use Rattle.mq_calls.specs.declared.errno.Errno.TheVariants.{EAGAIN}
use Rattle.mq_system.specs.Many.{Under}
use Rattle.mq_system.specs.Outcome.{IsLook}
use Rattle.mq_system.proofs.SeenLemmas.{enters}
use Rattle.mq_system.proofs.SeenTurns.{early_letters, first_of_none, first_of_some, no_letters, or_left, out_slots, sent_many, some_more}
use Rattle.mq_system.proofs.TurnLemmas.{all_sent, none_sent, some_sent}
use Rattle.mq_system.proofs.system.System.msgsnd_many_within.Goals as goal

pub returns-then-count-eq0 : goal.returns-then-count-eq0
returns-then-count-eq0 g c =
    record {
      answer = no_letters _ _ _ _ _ _ c.args.letters.now.items c.args.letters.now.items refl (search rules);
    }

pub returns-then-slot-len : goal.returns-then-slot-len
returns-then-slot-len g c =
    let high : g.N.Names.slots ≤ slot_of c.args.id = search rules in
    let some : 0 < length c.args.letters.now.items = search rules in
    record {
      answer = early_letters _ _ _ _ _ _ c.args.letters.now.items c.args.letters.now.items _ refl some (omega arith) c.too_early.ensures (out_slots _ _ high);
    }

pub returns-in-Ok : goal.returns-in-Ok
returns-in-Ok g c =
    let within : slot_of c.args.id < g.N.Names.slots = search rules in
    let u : Under = record { slot = c.deref_mut.result.now; seat = c.enter-held.new.seat } in
    let v : Under = record { slot = c.send_many.new.self; seat = c.send_many.new.seat } in
    let had = c.loop.invariant in
    let h = enters c.args.seat.now c.loop.seat c.enter-held.new.seat (slot_of c.args.id) c.slot-slot.result c.deref_mut.result.now _ c.slot-slot.ensures.value c.deref_mut.ensures.value had.0 c.enter-held.ensures in
    let done = c.in-Ok.ensures.answer in
    let next : c.next_entry.result ≡ length c.deref_mut.result.now.whole.events = search rules in
    let ends : Bool = g.T.Patience.ends in
    let count : length c.args.letters.now.items ≡ length c.loop.letters.items = ap length (search rules) in
    let some : 0 < length c.loop.letters.items = search (rules, count) in
    let was = all_sent c.args.id c.args.moment 64 u v c.loop.letters.items c.send_many.new.letters.items done some (omega arith) in
    record {
      answer =
          rw (← had.1)
          (sent_many g.N.Names.slots c.args.id c.args.moment within ends 64
          c.args.seat.now u v c.loop.letters.items c.send_many.new.letters.items _ (Some c.next_entry.result) h done
          (rw next (first_of_some (length u.slot.whole.events) done.sent was)) tt);
    }

pub returns-then-len-count : goal.returns-then-len-count
returns-then-len-count g c =
    let within : slot_of c.args.id < g.N.Names.slots = search rules in
    let u : Under = record { slot = c.deref_mut.result.now; seat = c.enter-held.new.seat } in
    let v : Under = record { slot = c.send_many.new.self; seat = c.send_many.new.seat } in
    let had = c.loop.invariant in
    let h = enters c.args.seat.now c.loop.seat c.enter-held.new.seat (slot_of c.args.id) c.slot-slot.result c.deref_mut.result.now _ c.slot-slot.ensures.value c.deref_mut.ensures.value had.0 c.enter-held.ensures in
    let done = c.in-Err.ensures.answer in
    let next : c.next_entry.result ≡ length c.deref_mut.result.now.whole.events = search rules in
    let ends : Bool = g.T.Patience.ends in
    let count : length c.args.letters.now.items ≡ length c.loop.letters.items = ap length (search rules) in
    let fewer : length c.send_many.new.letters.items < length c.loop.letters.items = search (rules, count) in
    let was = some_sent c.args.id c.args.moment 64 u v c.loop.letters.items c.send_many.new.letters.items _ done fewer in
    record {
      answer =
          rw (← had.1)
          (sent_many g.N.Names.slots c.args.id c.args.moment within ends 64
          c.args.seat.now u v c.loop.letters.items c.send_many.new.letters.items _ (Some c.next_entry.result) h done
          (rw next (first_of_some (length u.slot.whole.events) done.sent was)) (λ same. some_more ends (length done.sent) was));
    }

pub returns-then-ne : goal.returns-then-ne
returns-then-ne g c =
    let within : slot_of c.args.id < g.N.Names.slots = search rules in
    let u : Under = record { slot = c.deref_mut.result.now; seat = c.enter-held.new.seat } in
    let v : Under = record { slot = c.send_many.new.self; seat = c.send_many.new.seat } in
    let had = c.loop.invariant in
    let h = enters c.args.seat.now c.loop.seat c.enter-held.new.seat (slot_of c.args.id) c.slot-slot.result c.deref_mut.result.now _ c.slot-slot.ensures.value c.deref_mut.ensures.value had.0 c.enter-held.ensures in
    let done = c.in-Err.ensures.answer in
    let ends : Bool = g.T.Patience.ends in
    let count : length c.args.letters.now.items ≡ length c.loop.letters.items = ap length (search rules) in
    let as_many : length c.loop.letters.items ≤ length c.send_many.new.letters.items = search (rules, count) in
    let none = none_sent c.args.id c.args.moment 64 u v c.loop.letters.items c.send_many.new.letters.items _ done as_many in
    let at_once : c.in-Err.refused.errno ≡ EAGAIN → ends ≡ true =
    λ same. search (rules, same) in
    record {
      answer =
          rw (← had.1)
          (sent_many g.N.Names.slots c.args.id c.args.moment within ends 64
          c.args.seat.now u v c.loop.letters.items c.send_many.new.letters.items _ None h done
          (first_of_none (length u.slot.whole.events) done.sent none.2) (λ same. or_left ends (nat_lt 0 (length done.sent)) (at_once same)));
    }

pub returns-in_default-left : goal.returns-in_default-left
returns-in_default-left g c =
    let within : slot_of c.args.id < g.N.Names.slots = search rules in
    let u : Under = record { slot = c.deref_mut.result.now; seat = c.enter-held.new.seat } in
    let v : Under = record { slot = c.send_many.new.self; seat = c.send_many.new.seat } in
    let had = c.loop.invariant in
    let h = enters c.args.seat.now c.loop.seat c.enter-held.new.seat (slot_of c.args.id) c.slot-slot.result c.deref_mut.result.now _ c.slot-slot.ensures.value c.deref_mut.ensures.value had.0 c.enter-held.ensures in
    let done = c.in-Err.ensures.answer in
    let ends : Bool = g.T.Patience.ends in
    let count : length c.args.letters.now.items ≡ length c.loop.letters.items = ap length (search rules) in
    let as_many : length c.loop.letters.items ≤ length c.send_many.new.letters.items = search (rules, count) in
    let none = none_sent c.args.id c.args.moment 64 u v c.loop.letters.items c.send_many.new.letters.items _ done as_many in
    let over : ends ≡ true = search rules in
    record {
      answer =
          rw (← had.1)
          (sent_many g.N.Names.slots c.args.id c.args.moment within ends 64
          c.args.seat.now u v c.loop.letters.items c.send_many.new.letters.items _ None h done
          (first_of_none (length u.slot.whole.events) done.sent none.2) (λ same. or_left ends (nat_lt 0 (length done.sent)) over));
    }

pub loop-preserved : goal.loop-preserved
loop-preserved g c =
    let u : Under = record { slot = c.deref_mut.result.now; seat = c.enter-held.new.seat } in
    let v : Under = record { slot = c.send_many.new.self; seat = c.send_many.new.seat } in
    let had = c.loop.invariant in
    let h = enters c.args.seat.now c.loop.seat c.enter-held.new.seat (slot_of c.args.id) c.slot-slot.result c.deref_mut.result.now _ c.slot-slot.ensures.value c.deref_mut.ensures.value had.0 c.enter-held.ensures in
    let done = c.in-Err.ensures.answer in
    let count : length c.args.letters.now.items ≡ length c.loop.letters.items = ap length (search rules) in
    let as_many : length c.loop.letters.items ≤ length c.send_many.new.letters.items = search (rules, count) in
    let none = none_sent c.args.id c.args.moment 64 u v c.loop.letters.items c.send_many.new.letters.items _ done as_many in
    (subst (λ (x : Under). IsLook c.args.seat.now x.seat) none.0 h.look, none.1 ∙ had.1)
