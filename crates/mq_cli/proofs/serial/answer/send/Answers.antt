use Rattle.std.proofs.Common.{rules, w64}
use Rattle.std.proofs.lemmas.Int.{to_z-of_z}
use mir.Val.{SFits}
use Rattle.mq_cli.specs.Seen.{text_seen}
use Rattle.mq_cli.proofs.DraftLemmas.{refused_leaves}
use Rattle.mq_cli.proofs.serial.answer.send.Goals as goal

pub returns-in_ok-write_refused-in-Err-msgsnd : goal.returns-in_ok-write_refused-in-Err-msgsnd
returns-in_ok-write_refused-in-Err-msgsnd g c =
    let fits : SFits w64 c.args.call.mtype = search rules in
    let whole = simp to_z-of_z at c.in-Err-msgsnd.ensures.answer.refused in
    let named = rw c.from_number.ensures at whole in
    refused_leaves c.args.line c.args.seat c.args.queues.now c.args.call.id c.args.call.mtype (text_seen c.args.call.text) c.in-Ok.text c.draft.new.queues
    c.in-Err-msgsnd.refusal.refused c.in-Err-msgsnd.refusal.text c.msgsnd.new.self c.spend.new.self c.args.out.now.items c.write_refused.new.out.items
    c.in-Ok.ensures.answer
    named
    c.in-Err-msgsnd.ensures.answer.handed_back
    c.in-Err-msgsnd.ensures.answer.unchanged
    c.spend.ensures.back
    c.in_ok-write_refused-in-Err-msgsnd.ensures.ok
    c.in_ok-write_refused-in-Err-msgsnd.ensures.memory
