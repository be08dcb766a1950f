use Rattle.std.proofs.Common.{◌<◌, rules}
use mir.Val.{SFits}
use mir.Syntax.{w32}
use Rattle.std.proofs.lemmas.Int.{to_z-of_z}
use Rattle.mq_system.specs.Seat.{front_of}
use Rattle.mq_system.proofs.LaterLemmas.{later_self, look_trans}
use Rattle.mq_system.specs.Get.{HadFree, IsFree}
use Rattle.mq_system.proofs.GetLemmas.{below_around, below_more, free_now, made_before, wanted}
use Rattle.mq_system.proofs.system.System.make.Goals as goal

pub returns-in-Ok-clause-answer : goal.returns-in-Ok-clause-answer
returns-in-Ok-clause-answer g c =
    let fits : SFits w32 c.args.key = search rules in
    let had = c.loop-number.invariant in
    let seat = c.loop-number.seat in
    let now = c.make.new.seat in
    let told = simp to_z-of_z at c.in-Ok.ensures.answer in
    let made = made_before c.args.seat.now seat now c.loop-number.number g.N.Names.last_seq
    c.args.key c.args.moment _ had.1 told in
    let low : c.loop-number.number < g.N.Names.slots = search rules in record {
      within = rw made.slot_is low;
      made = rw made.slot_is made;
      lower =
          rw made.slot_is
          (below_around _ c.args.seat.now c.args.seat.now seat now c.loop-number.number
          (later_self c.args.seat.now) told.step.later had.2);
    }

pub returns-in_default-clause-answer : goal.returns-in_default-clause-answer
returns-in_default-clause-answer g c =
    let had = c.loop-number.invariant in
    let slots = g.N.Names.slots in
    let last_seq = g.N.Names.last_seq in
    let old = c.args.seat.now in
    let seat = c.loop-number.seat in
    let now = c.make.new.seat in
    let number = c.loop-number.number in
    let told = c.in-Err.ensures in
    let low : number < slots = search rules in
    let free : IsFree last_seq (front_of now number) =
    wanted last_seq (front_of now number) _ told.answer c.in_default.not-ENOSPC in
    let not_new : HadFree slots last_seq old now =
    free_now slots last_seq old seat now number low had.1.later told.unchanged.1.later free had.2 in
    search (rules, not_new)

pub loop-number-preserved : goal.loop-number-preserved
loop-number-preserved g c =
    let had = c.loop-number.invariant in
    let seat = c.loop-number.seat in
    let now = c.make.new.seat in
    let told = c.in-Err.ensures in (
      search rules,
      look_trans c.args.seat.now seat now had.1 told.unchanged.1,
      below_more _ c.args.seat.now seat now c.loop-number.number had.1.later
          told.unchanged.1.later (rw c.in-ENOSPC.is at told.answer) had.2,
    )
