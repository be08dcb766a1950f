use Rattle.std.proofs.Common.{rules, ap, inl, ◌∙◌, w64}
use Rattle.std.proofs.lemmas.Int.{to_z-of_z}
use mir.Val.{SFits}
use Rattle.mq_arena.specs.Text.{PlainText}
use Rattle.mq_local.proofs.DraftLemmas.{spent_after}
use Rattle.mq_calls.specs.State.{QueuesState}
use Rattle.mq_calls.specs.Texts.{text_spent}
use Rattle.mq_calls.specs.declared.results.Refused.{Refused}
use Rattle.mq.proofs.SendLemmas.{refused_whole}
use Rattle.mq.proofs.bytes.send_bytes.Goals as goal

pub returns-in-Err-msgsnd : goal.returns-in-Err-msgsnd
returns-in-Err-msgsnd g c =
    let fits : SFits w64 c.args.message.mtype = search rules in
    let back = c.in-Err-msgsnd.ensures.answer in
    let is = simp to_z-of_z at back.refused in
    record {
      answer = record {
        refused =
            inl (ap (λ (r : Refused). r.errno)
            (refused_whole c.args.queues.now c.draft_of.new.self c.args.seat c.args.id c.args.message.mtype
            c.args.message.tag c.args.message.bytes.now c.args.moment c.in-Ok.text c.in-Err-msgsnd.refusal.refused
            c.in-Ok.ensures.answer is));
        unchanged =
            c.spend.ensures.back
            ∙ ap (λ (t : PlainText). text_spent t c.msgsnd.new.self) back.handed_back
            ∙ ap (λ (s : QueuesState). text_spent c.in-Ok.text s) back.unchanged
            ∙ spent_after c.args.queues.now c.draft_of.new.self c.args.message.bytes.now c.in-Ok.text
            c.in-Ok.ensures.answer;
      };
    }
