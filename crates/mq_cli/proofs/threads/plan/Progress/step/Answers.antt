use Rattle.std.proofs.Common.{rules, ◌∷◌, [], None, Some, Ok, Err, refl}
use Rattle.mq_cli.specs.Calls.{remove}
use Rattle.mq_cli.specs.contracts.threads.notes.StreamPartialEq.TheImpl.{eq-value}
use Rattle.mq_cli.proofs.FarLemmas.{goes_nowhere}
use Rattle.mq_cli.proofs.WorkLemmas.{called_one, called_refused}
use Rattle.mq_cli.proofs.threads.plan.Progress.step.Goals as goal

pub returns-in-Ok-clause-called : goal.returns-in-Ok-clause-called
returns-in-Ok-clause-called g c =
    let p = g.Q.Port in
    let call = remove c.in-Remove.id c.in-Remove.moment in
    let told = λ (done : p.removes c.args.port.now c.in-Remove.id c.in-Remove.moment (Ok c.in-Ok.field-0) c.remove.new.self).
    goes_nowhere eq-value.it p.puts p.takes p.removes (call ∷ []) c.args.port.now c.remove.new.self c.args.self.now None
    (called_one p.puts p.takes p.removes call c.args.port.now c.remove.new.self 0 [] refl (refl, (c.in-Ok.field-0, done))) in
    rw c.in-Remove.is (search (rules, told, c.in-Ok.ensures.done))

pub returns-in-Err-clause-called : goal.returns-in-Err-clause-called
returns-in-Err-clause-called g c =
    let p = g.Q.Port in
    let call = remove c.in-Remove.id c.in-Remove.moment in
    let told = λ (failed : p.removes c.args.port.now c.in-Remove.id c.in-Remove.moment (Err c.in-Err.errno) c.remove.new.self).
    goes_nowhere eq-value.it p.puts p.takes p.removes (call ∷ []) c.args.port.now c.remove.new.self c.args.self.now (Some c.in-Err.errno)
    (called_refused p.puts p.takes p.removes call c.args.port.now c.remove.new.self c.in-Err.errno failed) in
    rw c.in-Remove.is (search (rules, told, c.in-Err.ensures.done))
