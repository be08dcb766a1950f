use Rattle.std.proofs.Common.{rules, ◌≡◌, ◌<◌, ◌≤◌, [], Bool, true, nat_lt, arith, length, sym, ◌∙◌, subst}
use Rattle.mq_table.specs.Ids.{slot_of}
use Rattle.mq_calls.specs.declared.errno.Errno.TheVariants.{ENOMSG}
use Rattle.mq_system.specs.Many.{Changes, Under, receive_of}
use Rattle.mq_system.specs.Outcome.{IsLook}
use Rattle.mq_system.proofs.RefusalLemmas.{in_slots}
use Rattle.mq_system.proofs.SeenLemmas.{enters}
use Rattle.mq_system.proofs.SeenTurns.{early_many, none_many, or_left, out_slots, received_many, some_more}
use Rattle.mq_system.proofs.TurnLemmas.{nil_of_none, none_done}
use Rattle.mq_system.proofs.system.System.msgrcv_many_within.Goals as goal

pub returns-then-most-eq0-clause-answer : goal.returns-then-most-eq0-clause-answer
returns-then-most-eq0-clause-answer g c =
    let none : c.min-most.result ≡ 0 = omega arith in
    none_many _ _ _ _ _ _ _ _ _ _ _ c.requires.empty (sym c.min-most.ensures ∙ none)

pub returns-then-slot-len-clause-answer : goal.returns-then-slot-len-clause-answer
returns-then-slot-len-clause-answer g c =
    let high : g.N.Names.slots ≤ slot_of c.args.request.now.id = search rules in
    let some : 0 < c.min-most.result = omega arith in
    early_many _ _ _ _ _ _ _ _ _ _ _ _ c.requires.empty c.too_early.ensures (out_slots _ _ high) (subst (λ k. 0 < k) c.min-most.ensures some)

pub returns-in-Ok-clause-answer : goal.returns-in-Ok-clause-answer
returns-in-Ok-clause-answer g c =
    let within : slot_of c.args.request.now.id < g.N.Names.slots = search rules in
    let u : Under = record { slot = c.deref_mut.result.now; seat = c.enter-held.new.seat } in
    let v : Under = record { slot = c.receive_many.new.self; seat = c.receive_many.new.seat } in
    let h = enters c.args.seat.now c.loop.seat c.enter-held.new.seat (slot_of c.args.request.now.id) c.slot-slot.result c.deref_mut.result.now _ c.slot-slot.ensures.value c.deref_mut.ensures.value c.loop.invariant.0 c.enter-held.ensures in
    let told = c.in-Ok.ensures in
    let ds = c.receive_many.new.out.items in
    let ends : Bool = g.T.Patience.ends in
    received_many g.P.Pledge.kept g.N.Names.slots c.args.request.now.id c.args.request.now.size c.args.request.now.selection
    c.args.request.now.noerror c.args.request.now.moment (in_slots g.N.Names.slots c.args.request.now.id within)
    ends _ c.min-most.result c.args.seat.now u v ds _ c.min-most.ensures h told.pledge told.answer
    tt

pub returns-then-not-is_empty-clause-answer : goal.returns-then-not-is_empty-clause-answer
returns-then-not-is_empty-clause-answer g c =
    let within : slot_of c.args.request.now.id < g.N.Names.slots = search rules in
    let u : Under = record { slot = c.deref_mut.result.now; seat = c.enter-held.new.seat } in
    let v : Under = record { slot = c.receive_many.new.self; seat = c.receive_many.new.seat } in
    let h = enters c.args.seat.now c.loop.seat c.enter-held.new.seat (slot_of c.args.request.now.id) c.slot-slot.result c.deref_mut.result.now _ c.slot-slot.ensures.value c.deref_mut.ensures.value c.loop.invariant.0 c.enter-held.ensures in
    let told = c.in-Err.ensures in
    let ds = c.receive_many.new.out.items in
    let ends : Bool = g.T.Patience.ends in
    let some : 0 < length ds = search rules in
    received_many g.P.Pledge.kept g.N.Names.slots c.args.request.now.id c.args.request.now.size c.args.request.now.selection
    c.args.request.now.noerror c.args.request.now.moment (in_slots g.N.Names.slots c.args.request.now.id within)
    ends _ c.min-most.result c.args.seat.now u v ds _ c.min-most.ensures h told.pledge told.answer
    (λ same. some_more ends (length ds) some)

pub returns-then-ne-clause-answer : goal.returns-then-ne-clause-answer
returns-then-ne-clause-answer g c =
    let within : slot_of c.args.request.now.id < g.N.Names.slots = search rules in
    let u : Under = record { slot = c.deref_mut.result.now; seat = c.enter-held.new.seat } in
    let v : Under = record { slot = c.receive_many.new.self; seat = c.receive_many.new.seat } in
    let h = enters c.args.seat.now c.loop.seat c.enter-held.new.seat (slot_of c.args.request.now.id) c.slot-slot.result c.deref_mut.result.now _ c.slot-slot.ensures.value c.deref_mut.ensures.value c.loop.invariant.0 c.enter-held.ensures in
    let told = c.in-Err.ensures in
    let ds = c.receive_many.new.out.items in
    let ends : Bool = g.T.Patience.ends in
    let at_once : c.in-Err.refused.errno ≡ ENOMSG → ends ≡ true =
    λ same. search (rules, same) in
    received_many g.P.Pledge.kept g.N.Names.slots c.args.request.now.id c.args.request.now.size c.args.request.now.selection
    c.args.request.now.noerror c.args.request.now.moment (in_slots g.N.Names.slots c.args.request.now.id within)
    ends _ c.min-most.result c.args.seat.now u v ds _ c.min-most.ensures h told.pledge told.answer
    (λ same. or_left ends (nat_lt 0 (length ds)) (at_once same))

pub returns-in_default-clause-answer : goal.returns-in_default-clause-answer
returns-in_default-clause-answer g c =
    let within : slot_of c.args.request.now.id < g.N.Names.slots = search rules in
    let u : Under = record { slot = c.deref_mut.result.now; seat = c.enter-held.new.seat } in
    let v : Under = record { slot = c.receive_many.new.self; seat = c.receive_many.new.seat } in
    let h = enters c.args.seat.now c.loop.seat c.enter-held.new.seat (slot_of c.args.request.now.id) c.slot-slot.result c.deref_mut.result.now _ c.slot-slot.ensures.value c.deref_mut.ensures.value c.loop.invariant.0 c.enter-held.ensures in
    let told = c.in-Err.ensures in
    let ds = c.receive_many.new.out.items in
    let ends : Bool = g.T.Patience.ends in
    let over : ends ≡ true = search rules in
    received_many g.P.Pledge.kept g.N.Names.slots c.args.request.now.id c.args.request.now.size c.args.request.now.selection
    c.args.request.now.noerror c.args.request.now.moment (in_slots g.N.Names.slots c.args.request.now.id within)
    ends _ c.min-most.result c.args.seat.now u v ds _ c.min-most.ensures h told.pledge told.answer
    (λ same. or_left ends (nat_lt 0 (length ds)) over)

pub loop-preserved : goal.loop-preserved
loop-preserved g c =
    let u : Under = record { slot = c.deref_mut.result.now; seat = c.enter-held.new.seat } in
    let v : Under = record { slot = c.receive_many.new.self; seat = c.receive_many.new.seat } in
    let h = enters c.args.seat.now c.loop.seat c.enter-held.new.seat (slot_of c.args.request.now.id) c.slot-slot.result c.deref_mut.result.now _ c.slot-slot.ensures.value c.deref_mut.ensures.value c.loop.invariant.0 c.enter-held.ensures in
    let none : c.receive_many.new.out.items ≡ [] = nil_of_none c.receive_many.new.out.items (search rules) in
    let stays = none_done (Changes (receive_of c.args.request.now.id c.args.request.now.size c.args.request.now.selection c.args.request.now.noerror c.args.request.now.moment)) c.receive_many.new.out.items u v c.in-Err.ensures.answer.turns none in (
      subst (λ (x : Under). IsLook c.args.seat.now x.seat) stays h.look,
      none,
      c.in-Err.ensures.capacity ∙ c.loop.invariant.2,
    )
