use Rattle.std.proofs.Common.{rules}
use Rattle.std.proofs.lemmas.Int.{to_z-of_z}
use Rattle.std.specs.Int.{w32, w64}
use Rattle.std.specs.Int.RustNames.{FitsSigned}
use Rattle.mq_face.proofs.TurnLemmas.{send_refused}
use Rattle.mq_face.proofs.send_call.send.Goals as goal

pub returns-in-Err-msgsnd : goal.returns-in-Err-msgsnd
returns-in-Err-msgsnd g c =
    let call = c.args.call in
    let number_fits : FitsSigned w32 call.number = search rules in
    let type_fits : FitsSigned w64 call.mtype = search rules in
    let named = simp (to_z-of_z, number_fits) at c.in-Ok.ensures in
    let back = c.in-Err-msgsnd.ensures.answer in
    let told = simp (to_z-of_z, type_fits) at back.refused in
    record {
      answer = record {
        refused = rw c.blocked.ensures
            (send_refused c.args.queues.now call c.args.text c.in-Ok.id c.in-Err-msgsnd.refusal.refused named told);
        unchanged = search (rules, back.handed_back, back.unchanged);
      };
    }
