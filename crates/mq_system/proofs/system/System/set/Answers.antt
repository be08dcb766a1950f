use Rattle.std.proofs.Common.{rules, ◌<◌, ◌≤◌}
use Rattle.std.specs.Prelude.{IsSome}
use Rattle.mq_queue.specs.declared.limits.TheConstants.{MSGMNB}
use Rattle.mq_table.specs.Ids.{slot_of}
use Rattle.mq_system.specs.Refusals.{MaySet}
use Rattle.mq_system.proofs.LaterLemmas.{look_self}
use Rattle.mq_system.proofs.RefusalLemmas.{in_slots, turned_away}
use Rattle.mq_system.proofs.SeenLemmas.{decided_set, done_set, enters}
use Rattle.mq_system.proofs.system.System.set.Goals as goal

pub returns-in-Ok : goal.returns-in-Ok
returns-in-Ok g c =
    let within : slot_of c.args.id < g.N.Names.slots = search rules in
    let now = c.enter-held.new.seat in
    let s = c.deref_mut.result.now.whole in
    let h = enters c.args.seat.now c.args.seat.now now (slot_of c.args.id) c.slot-slot.result c.deref_mut.result.now _ c.slot-slot.ensures.value c.deref_mut.ensures.value (look_self c.args.seat.now) c.enter-held.ensures in
    let told = c.in-Ok.ensures in
    let limit : c.args.qbytes ≤ MSGMNB = search rules in
    let done =
    done_set c.args.seat.now now c.set-answer.new.seat (slot_of c.args.id) s h c.args.id _
    c.args.qbytes c.args.moment c.set-answer.new.self.whole told.answer.noted told.answer.ok in record {
      answer = record {
        early = in_slots g.N.Names.slots c.args.id within;
        limit = limit;
        step = done.0;
        done = done.1;
      };
    }

pub returns-in-Err : goal.returns-in-Err
returns-in-Err g c =
    let within : slot_of c.args.id < g.N.Names.slots = search rules in
    let now = c.enter-held.new.seat in
    let s = c.deref_mut.result.now.whole in
    let h = enters c.args.seat.now c.args.seat.now now (slot_of c.args.id) c.slot-slot.result c.deref_mut.result.now _ c.slot-slot.ensures.value c.deref_mut.ensures.value (look_self c.args.seat.now) c.enter-held.ensures in
    let told = c.in-Err.ensures in
    let may : IsSome c.in-Err.refused.entry × MaySet c.args.qbytes c.in-Err.refused.errno =
    search rules in
    record {
      answer =
          rw told.answer.same
          (turned_away _ _ _ _ c.args.seat.now now c.in-Err.refused
          (in_slots g.N.Names.slots c.args.id within) h.look may
          (decided_set c.args.seat.now now now (slot_of c.args.id) s h c.args.id c.args.qbytes
          now.number c.args.moment _ h.known told.answer.why));
    }
