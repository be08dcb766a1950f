use Rattle.std.proofs.Common.{rules, sym, ◌∙◌}
use Rattle.std.proofs.lemmas.Int.{to_z-of_z}
use Rattle.std.specs.Int.{w32, w64}
use Rattle.std.specs.Int.RustNames.{FitsSigned}
use Rattle.mq_face.proofs.TurnLemmas.{receive_done, receive_refused}
use Rattle.mq_face.proofs.receive_call.receive.Goals as goal

pub returns-in-Ok : goal.returns-in-Ok
returns-in-Ok g c =
    let call = c.args.call in
    let number_fits : FitsSigned w32 call.number = search rules in
    let type_fits : FitsSigned w64 call.mtype = search rules in
    let named = sym c.in_ok-id.was ∙ simp (to_z-of_z, number_fits) at c.id_of.ensures in
    let none = sym c.in_default.is ∙ c.receive_fault.ensures in
    let told = simp (to_z-of_z, type_fits) at c.in-Ok.ensures.answer in
    record {
      answer = rw c.received.ensures
          (receive_done c.args.queues.now c.msgrcv.new.self call c.in_ok-id.id c.in-Ok.delivered named none
          (rw (c.has-except.ensures, c.has-noerror.ensures) at told));
    }

pub returns-in-Err : goal.returns-in-Err
returns-in-Err g c =
    let call = c.args.call in
    let number_fits : FitsSigned w32 call.number = search rules in
    let type_fits : FitsSigned w64 call.mtype = search rules in
    let named = sym c.in_ok-id.was ∙ simp (to_z-of_z, number_fits) at c.id_of.ensures in
    let none = sym c.in_default.is ∙ c.receive_fault.ensures in
    let told = simp (to_z-of_z, type_fits) at c.in-Err.ensures.answer.refused in
    let seen = rw (c.has-except.ensures, c.has-noerror.ensures) at told in
    record {
      answer = record {
        refused = rw c.blocked.ensures
            (receive_refused c.args.queues.now call c.in_ok-id.id c.in-Err.refused named none (search (rules, seen)));
        unchanged = c.in-Err.ensures.answer.unchanged;
      };
    }
