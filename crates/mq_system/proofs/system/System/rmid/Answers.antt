use Rattle.std.proofs.Common.{rules, ◌<◌, subst, sym}
use Rattle.std.specs.Prelude.{IsSome}
use Rattle.mq_table.specs.Ids.{slot_of}
use Rattle.mq_table.specs.SlotList.{IsSlotList}
use Rattle.mq_system.specs.Refusals.{MayRemove}
use Rattle.mq_system.proofs.LaterLemmas.{look_self}
use Rattle.mq_system.proofs.RefusalLemmas.{in_slots, turned_away}
use Rattle.mq_system.proofs.SeenLemmas.{decided_remove, done_remove, enters}
use Rattle.mq_system.proofs.system.System.rmid.Goals as goal

pub returns-in-Ok : goal.returns-in-Ok
returns-in-Ok g c =
    let within : slot_of c.args.id < g.N.Names.slots = search rules in
    let now = c.enter-held.new.seat in
    let s = c.deref_mut.result.now.whole in
    let h = enters c.args.seat.now c.args.seat.now now (slot_of c.args.id) c.slot-slot.result c.deref_mut.result.now _ c.slot-slot.ensures.value c.deref_mut.ensures.value (look_self c.args.seat.now) c.enter-held.ensures in
    let told = c.in-Ok.ensures in
    let done =
    done_remove c.args.seat.now now c.remove-answer.new.seat (slot_of c.args.id) s h c.args.id
    c.args.moment _ c.remove-answer.new.self.whole told.answer.noted told.answer.ok in
    let lawful = subst (IsSlotList g.N.Names.last_seq) (sym done.3) told.lawful in record {
      answer = record {
        early = in_slots g.N.Names.slots c.args.id within;
        step = done.0;
        done = search (rules, done.1);
        log = search (rules, done.2);
        lawful = search (rules, lawful);
      };
    }

pub returns-in-Err : goal.returns-in-Err
returns-in-Err g c =
    let within : slot_of c.args.id < g.N.Names.slots = search rules in
    let now = c.enter-held.new.seat in
    let s = c.deref_mut.result.now.whole in
    let h = enters c.args.seat.now c.args.seat.now now (slot_of c.args.id) c.slot-slot.result c.deref_mut.result.now _ c.slot-slot.ensures.value c.deref_mut.ensures.value (look_self c.args.seat.now) c.enter-held.ensures in
    let told = c.in-Err.ensures in
    let may : IsSome c.in-Err.refused.entry × MayRemove c.in-Err.refused.errno = search rules in
    record {
      answer =
          rw told.answer.same
          (turned_away _ _ _ _ c.args.seat.now now c.in-Err.refused
          (in_slots g.N.Names.slots c.args.id within) h.look may
          (decided_remove c.args.seat.now now now (slot_of c.args.id) s h c.args.id now.number
          c.args.moment _ h.known told.answer.why));
    }
