use Rattle.std.proofs.Common.{rules, w64}
use Rattle.std.proofs.lemmas.Int.{to_z-of_z}
use mir.Val.{SFits}
use Rattle.mq_arena.specs.Text.{PlainText}
use Rattle.mq_calls.specs.State.{QueuesState}
use Rattle.mq_calls.specs.Texts.{text_spent}
use Rattle.mq_calls.specs.declared.results.Delivered.{Delivered}
use Rattle.mq_cli.specs.Transcript.{message}
use Rattle.mq_cli.proofs.RefusedLemmas.{refusal_replied}
use Rattle.mq_cli.proofs.serial.answer.receive.Goals as goal

pub returns-in_ok-written-in-Ok : goal.returns-in_ok-written-in-Ok
returns-in_ok-written-in-Ok g c =
    let fits : SFits w64 c.args.call.mtype = search rules in
    let told = simp to_z-of_z at c.in-Ok.ensures.answer in
    let named = rw c.from_number-id.ensures at told in
    search (rules, named)

pub returns-in_ok-write_refused-in-Err : goal.returns-in_ok-write_refused-in-Err
returns-in_ok-write_refused-in-Err g c =
    let fits : SFits w64 c.args.call.mtype = search rules in
    let told = simp to_z-of_z at c.in-Err.ensures.answer.refused in
    let named = rw c.from_number-id.ensures at told in
    refusal_replied c.args.queues.now c.args.call.id (λ (t : Delivered PlainText × QueuesState). (message t.0, text_spent t.0.text t.1)) _ c.in-Err.refused c.msgrcv.new.self
    c.args.out.now.items c.write_refused.new.out.items named c.in-Err.ensures.answer.unchanged c.in_ok-write_refused-in-Err.ensures.ok c.in_ok-write_refused-in-Err.ensures.memory
