use Rattle.std.proofs.Common.{rules, ◌≡◌, ◌<◌, ◌||◌, pos, int_lt, Bool, false, true}
use mir.Val.{SFits}
use mir.Syntax.{w64}
use Rattle.std.proofs.lemmas.Int.{to_z-of_z}
use Rattle.mq_arena.specs.Text.{PlainText}
use Rattle.mq_message.specs.declared.message.Message.{Message}
use Rattle.mq_calls.specs.declared.errno.Errno.TheVariants.{EAGAIN}
use Rattle.mq_table.specs.Ids.{slot_of}
use Rattle.mq_system.proofs.RefusalLemmas.{may_be_sent, or_right, send_may, turned_away}
use Rattle.mq_system.proofs.SeenLemmas.{decided_send, done_send, enters}
use Rattle.mq_system.proofs.system.System.msgsnd_within.Goals as goal

pub loop-preserved : goal.loop-preserved
loop-preserved g c =
    let h = enters c.args.seat.now c.loop.seat c.enter-held.new.seat (slot_of c.args.id) c.slot-slot.result c.deref_mut.result.now _ c.slot-slot.ensures.value c.deref_mut.ensures.value c.loop.invariant.1 c.enter-held.ensures in
    rw c.in-Err.ensures.answer.same (search rules, h.look)

pub returns-in-Ok-clause-answer : goal.returns-in-Ok-clause-answer
returns-in-Ok-clause-answer g c =
    let within : slot_of c.args.id < g.N.Names.slots = search rules in
    let positive : int_lt c.args.mtype (pos 1) ≡ false = search rules in
    let now = c.enter-held.new.seat in
    let s = c.deref_mut.result.now.whole in
    let had = c.loop.invariant in
    let h = enters c.args.seat.now c.loop.seat now (slot_of c.args.id) c.slot-slot.result c.deref_mut.result.now _ c.slot-slot.ensures.value c.deref_mut.ensures.value had.1 c.enter-held.ensures in
    let fits : SFits w64 c.args.mtype = search rules in
    let told = c.in-Ok.ensures in
    let done =
    done_send c.args.seat.now now c.send.new.seat (slot_of c.args.id) s h c.args.id _
    c.args.mtype c.args.tag c.args.moment c.loop.text c.send.new.self.whole positive
    told.answer.noted (simp to_z-of_z at told.answer.ok) in record {
      early = may_be_sent g.N.Names.slots c.args.id c.args.mtype positive within;
      step = done.0;
      done = rw (← had.0) done.1;
    }

pub returns-then-ne-clause-answer : goal.returns-then-ne-clause-answer
returns-then-ne-clause-answer g c =
    let within : slot_of c.args.id < g.N.Names.slots = search rules in
    let positive : int_lt c.args.mtype (pos 1) ≡ false = search rules in
    let now = c.enter-held.new.seat in
    let s = c.deref_mut.result.now.whole in
    let had = c.loop.invariant in
    let h = enters c.args.seat.now c.loop.seat now (slot_of c.args.id) c.slot-slot.result c.deref_mut.result.now _ c.slot-slot.ensures.value c.deref_mut.ensures.value had.1 c.enter-held.ensures in
    let fits : SFits w64 c.args.mtype = search rules in
    let message : Message PlainText = record {
      mtype = c.args.mtype;
      sender = now.number;
      tag = c.args.tag;
      body = c.loop.text;
    } in
    let told = c.in-Err.ensures in
    let refused = simp to_z-of_z at told.answer.why in
    let ends : Bool = g.T.Patience.ends in
    let at_once : c.in-Err.refusal.refused.errno ≡ EAGAIN → c.args.flags.nowait ≡ true =
    λ same. search (rules, same) in
    let may = send_may s (ends || c.args.flags.nowait) c.args.id message c.args.moment c.in-Err.refusal.refused positive refused (λ same. or_right ends c.args.flags.nowait (at_once same)) in
    rw (told.answer.same, ← had.0)
    (turned_away _ _ _ _ c.args.seat.now now c.in-Err.refusal.refused
    (may_be_sent g.N.Names.slots c.args.id c.args.mtype positive within)
    h.look may
    (decided_send c.args.seat.now now now (slot_of c.args.id) s h c.args.id message c.args.moment _
    h.known refused))

pub returns-in_default-clause-answer : goal.returns-in_default-clause-answer
returns-in_default-clause-answer g c =
    let within : slot_of c.args.id < g.N.Names.slots = search rules in
    let positive : int_lt c.args.mtype (pos 1) ≡ false = search rules in
    let now = c.enter-held.new.seat in
    let s = c.deref_mut.result.now.whole in
    let had = c.loop.invariant in
    let h = enters c.args.seat.now c.loop.seat now (slot_of c.args.id) c.slot-slot.result c.deref_mut.result.now _ c.slot-slot.ensures.value c.deref_mut.ensures.value had.1 c.enter-held.ensures in
    let fits : SFits w64 c.args.mtype = search rules in
    let message : Message PlainText = record {
      mtype = c.args.mtype;
      sender = now.number;
      tag = c.args.tag;
      body = c.loop.text;
    } in
    let told = c.in-Err.ensures in
    let refused = simp to_z-of_z at told.answer.why in
    let ends : (g.T.Patience.ends || c.args.flags.nowait) ≡ true = search rules in
    let may = send_may s (g.T.Patience.ends || c.args.flags.nowait) c.args.id message c.args.moment c.in-Err.refusal.refused positive refused (λ same. ends) in
    rw (told.answer.same, ← had.0)
    (turned_away _ _ _ _ c.args.seat.now now c.in-Err.refusal.refused
    (may_be_sent g.N.Names.slots c.args.id c.args.mtype positive within)
    h.look may
    (decided_send c.args.seat.now now now (slot_of c.args.id) s h c.args.id message c.args.moment _
    h.known refused))
