use Rattle.std.proofs.Common.{rules, ◌≡◌, ◌<◌, ◌||◌, Bool, true}
use mir.Val.{SFits}
use mir.Syntax.{w64}
use Rattle.std.proofs.lemmas.Int.{to_z-of_z}
use Rattle.mq_table.specs.Ids.{slot_of}
use Rattle.mq_calls.specs.declared.errno.Errno.TheVariants.{ENOMSG}
use Rattle.mq_system.proofs.RefusalLemmas.{in_slots, or_right, receive_may, turned_away}
use Rattle.mq_system.proofs.SeenLemmas.{decided_receive, done_receive, enters}
use Rattle.mq_system.proofs.system.System.msgrcv_within.Goals as goal

pub loop-preserved : goal.loop-preserved
loop-preserved g c =
    let h = enters c.args.seat.now c.loop.seat c.enter-held.new.seat (slot_of c.args.id) c.slot-slot.result c.deref_mut.result.now _ c.slot-slot.ensures.value c.deref_mut.ensures.value c.loop.invariant c.enter-held.ensures in
    rw c.in-Err.ensures.answer.same h.look

pub returns-in-Ok : goal.returns-in-Ok
returns-in-Ok g c =
    let within : slot_of c.args.id < g.N.Names.slots = search rules in
    let now = c.enter-held.new.seat in
    let s = c.deref_mut.result.now.whole in
    let h = enters c.args.seat.now c.loop.seat now (slot_of c.args.id) c.slot-slot.result c.deref_mut.result.now _ c.slot-slot.ensures.value c.deref_mut.ensures.value c.loop.invariant c.enter-held.ensures in
    let told = c.in-Ok.ensures in
    let fits : SFits w64 c.args.msgtyp = search rules in
    let selected = simp to_z-of_z at c.read.ensures in
    let done =
    done_receive c.args.seat.now now c.receive.new.seat (slot_of c.args.id) s h c.args.id
    c.args.size c.read.result c.args.flags.noerror c.args.moment c.in-Ok.delivered c.receive.new.self.whole
    told.answer.noted (cc (told.answer.ok)) in record {
      answer = record {
        early = in_slots g.N.Names.slots c.args.id within;
        step = done.0;
        receipt = rw (← selected) done.1;
        pledge = told.pledge.part;
        whole = told.pledge.uncut;
      };
    }

pub returns-then-ne : goal.returns-then-ne
returns-then-ne g c =
    let within : slot_of c.args.id < g.N.Names.slots = search rules in
    let now = c.enter-held.new.seat in
    let s = c.deref_mut.result.now.whole in
    let h = enters c.args.seat.now c.loop.seat now (slot_of c.args.id) c.slot-slot.result c.deref_mut.result.now _ c.slot-slot.ensures.value c.deref_mut.ensures.value c.loop.invariant c.enter-held.ensures in
    let told = c.in-Err.ensures in
    let fits : SFits w64 c.args.msgtyp = search rules in
    let selected = simp to_z-of_z at c.read.ensures in
    let ends : Bool = g.T.Patience.ends in
    let at_once : c.in-Err.refused.errno ≡ ENOMSG → c.args.flags.nowait ≡ true =
    λ same. search (rules, same) in
    let may = receive_may s (ends || c.args.flags.nowait) c.args.id c.args.size c.read.result c.args.flags.noerror now.number c.args.moment c.in-Err.refused told.answer.why (λ same. or_right ends c.args.flags.nowait (at_once same)) in
    record {
      answer =
          rw (told.answer.same, ← selected)
          (turned_away _ _ _ _ c.args.seat.now now c.in-Err.refused
          (in_slots g.N.Names.slots c.args.id within) h.look may
          (decided_receive c.args.seat.now now now (slot_of c.args.id) s h c.args.id c.args.size
          c.read.result c.args.flags.noerror now.number c.args.moment _ h.known told.answer.why));
    }

pub returns-in_default : goal.returns-in_default
returns-in_default g c =
    let within : slot_of c.args.id < g.N.Names.slots = search rules in
    let now = c.enter-held.new.seat in
    let s = c.deref_mut.result.now.whole in
    let h = enters c.args.seat.now c.loop.seat now (slot_of c.args.id) c.slot-slot.result c.deref_mut.result.now _ c.slot-slot.ensures.value c.deref_mut.ensures.value c.loop.invariant c.enter-held.ensures in
    let told = c.in-Err.ensures in
    let fits : SFits w64 c.args.msgtyp = search rules in
    let selected = simp to_z-of_z at c.read.ensures in
    let ends : (g.T.Patience.ends || c.args.flags.nowait) ≡ true = search rules in
    let may = receive_may s (g.T.Patience.ends || c.args.flags.nowait) c.args.id c.args.size c.read.result c.args.flags.noerror now.number c.args.moment c.in-Err.refused told.answer.why (λ same. ends) in
    record {
      answer =
          rw (told.answer.same, ← selected)
          (turned_away _ _ _ _ c.args.seat.now now c.in-Err.refused
          (in_slots g.N.Names.slots c.args.id within) h.look may
          (decided_receive c.args.seat.now now now (slot_of c.args.id) s h c.args.id c.args.size
          c.read.result c.args.flags.noerror now.number c.args.moment _ h.known told.answer.why));
    }
