use Rattle.std.proofs.Common.{rules}
use Rattle.std.proofs.lemmas.Int.{to_z-of_z}
use Rattle.std.specs.Int.{w32}
use Rattle.std.specs.Int.RustNames.{FitsSigned}
use Rattle.mq_table.specs.Ids.{seq_of, slot_of}
use Rattle.mq_system.specs.Outcome.{IsSet}
use Rattle.mq_system.specs.Refusals.{MaySet, out_of_slots}
use Rattle.mq_system.specs.Seen.{set_verdict}
use Rattle.mq_system.specs.Get.{IsGot, IsNotGot}
use Rattle.mq_cli.specs.declared.threads.script.MainCall.TheVariants.{Get, Set}
use Rattle.mq_cli.specs.MainPart.{Gives}
use Rattle.mq_cli.specs.Transcript.{given, at}
use Rattle.mq_cli.proofs.MainLemmas.{replied, refused_so}
use Rattle.mq_cli.proofs.PortLemmas.{refused_call}
use Rattle.mq_cli.proofs.threads.main_part.answer_main.Goals as goal

pub returns-in_ok-write_id-in-Ok : goal.returns-in_ok-write_id-in-Ok
returns-in_ok-write_id-in-Ok g c =
    let slots = g.N.Names.slots in
    let last_seq = g.N.Names.last_seq in
    let call = c.in-Get in
    let old = c.args.seat.now in
    let new = c.msgget.new.seat in
    let fits : FitsSigned w32 call.key = search rules in
    let got : IsGot slots last_seq call.key call.flags call.moment old new c.in-Ok.got = search (rules, simp (to_z-of_z, fits) at c.in-Ok.ensures.answer) in
    let gives : Gives slots last_seq call.key call.flags call.moment c.number.result old new = (c.in-Ok.got, search (rules, c.number.ensures), got) in
    let told = replied slots last_seq (Get call.key call.flags call.moment) c.args.out.now.items c.write_id.new.out.items old new (given c.number.result) gives c.in_ok-write_id-in-Ok.ensures in
    rw call.is told

pub returns-in_ok-write_refused-in-Err : goal.returns-in_ok-write_refused-in-Err
returns-in_ok-write_refused-in-Err g c =
    let slots = g.N.Names.slots in
    let last_seq = g.N.Names.last_seq in
    let call = c.in-Get in
    let errno = c.in-Err.errno in
    let old = c.args.seat.now in
    let new = c.msgget.new.seat in
    let fits : FitsSigned w32 call.key = search rules in
    let none : IsNotGot slots last_seq call.key call.flags old new errno = search (rules, simp (to_z-of_z, fits) at c.in-Err.ensures.answer) in
    let told = refused_so slots last_seq (Get call.key call.flags call.moment) c.args.out.now.items c.write_refused.new.out.items old new errno
    (λ memory. (memory, none)) c.in_ok-write_refused-in-Err.ensures.ok c.in_ok-write_refused-in-Err.ensures.memory in
    rw call.is told

pub returns-in_ok-write_entry-in-Ok-set : goal.returns-in_ok-write_entry-in-Ok-set
returns-in_ok-write_entry-in-Ok-set g c =
    let slots = g.N.Names.slots in
    let last_seq = g.N.Names.last_seq in
    let call = c.in-Set in
    let entry = c.in-Ok-set.entry in
    let old = c.args.seat.now in
    let new = c.set.new.seat in
    let is_set : IsSet slots call.id call.qbytes call.moment old new entry = search (rules, c.in-Ok-set.ensures.answer) in
    let told = replied slots last_seq (Set call.id call.qbytes call.moment) c.args.out.now.items c.write_entry.new.out.items old new (at entry) is_set c.in_ok-write_entry-in-Ok-set.ensures in
    rw call.is told

pub returns-in_ok-write_refused-in-Err-set : goal.returns-in_ok-write_refused-in-Err-set
returns-in_ok-write_refused-in-Err-set g c =
    let slots = g.N.Names.slots in
    let last_seq = g.N.Names.last_seq in
    let call = c.in-Set in
    let r = c.in-Err-set.refused in
    let old = c.args.seat.now in
    let new = c.set.new.seat in
    let call_refused = refused_call (out_of_slots slots call.id) (MaySet call.qbytes) (slot_of call.id) (set_verdict (seq_of call.id) call.qbytes) old new r c.in-Err-set.ensures.answer in
    let told = refused_so slots last_seq (Set call.id call.qbytes call.moment) c.args.out.now.items c.write_refused-in-Err-set.new.out.items old new r.errno
    (λ memory. (memory, call_refused)) c.in_ok-write_refused-in-Err-set.ensures.ok c.in_ok-write_refused-in-Err-set.ensures.memory in
    rw call.is told
