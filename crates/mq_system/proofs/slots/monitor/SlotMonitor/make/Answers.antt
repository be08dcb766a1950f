use Rattle.std.proofs.Common.{◌≡◌, ◌<◌, true, refl, rules}
use mir.Val.{SFits}
use mir.Syntax.{w32}
use Rattle.std.proofs.lemmas.Int.{to_z-of_z}
use Rattle.mq_table.specs.SlotList.{is_free}
use Rattle.mq_table.specs.declared.limits.TheConstants.{MAX_SLOTS}
use Rattle.mq_system.specs.Seat.{front_of}
use Rattle.mq_system.proofs.LaterLemmas.{look_self}
use Rattle.mq_system.proofs.SeenLemmas.{done_make, enters}
use Rattle.mq_system.proofs.slots.monitor.SlotMonitor.make.Goals as goal

pub returns-in-Ok-clause-answer : goal.returns-in-Ok-clause-answer
returns-in-Ok-clause-answer g c =
    let now = c.enter-held.new.seat in
    let s = c.deref_mut.result.now.whole in
    let h = enters c.args.seat.now c.args.seat.now now c.args.number c.args.number c.deref_mut.result.now _ refl c.deref_mut.ensures.value (look_self c.args.seat.now) c.enter-held.ensures in
    let free : is_free g.N.Names.last_seq s.events ≡ true = search rules in
    let few : s.number < MAX_SLOTS = search rules in
    let fits : SFits w32 c.args.queue.key = search rules in
    let told = c.in-Ok.ensures in
    done_make c.args.seat.now now c.make-answer.new.seat c.args.number s h g.N.Names.last_seq
    c.args.queue.key c.args.queue.moment _ c.make-answer.new.self.whole few free told.answer.is (simp to_z-of_z at told.answer.made)
    told.answer.noted

pub returns-in-Err-clause-answer : goal.returns-in-Err-clause-answer
returns-in-Err-clause-answer g c =
    let now = c.enter-held.new.seat in
    let s = c.deref_mut.result.now.whole in
    let h = enters c.args.seat.now c.args.seat.now now c.args.number c.args.number c.deref_mut.result.now _ refl c.deref_mut.ensures.value (look_self c.args.seat.now) c.enter-held.ensures in
    let free : is_free g.N.Names.last_seq s.events ≡ true = search rules in
    let told : is_free g.N.Names.last_seq (front_of c.make-answer.new.seat c.args.number) ≡ true =
    rw (c.in-Err.ensures.answer.2, h.known) free in
    search (rules, told)
