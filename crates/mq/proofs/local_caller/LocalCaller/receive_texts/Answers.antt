use Rattle.std.proofs.Common.{rules, inl, ◌≡◌, min, subst}
use mir.Val.{SFits}
use mir.Syntax.{w64}
use Rattle.std.proofs.lemmas.Int.{to_z-of_z}
use Rattle.mq_message.specs.Selection.{selection_of}
use Rattle.mq_message.specs.declared.selection.Selection.{Selection}
use Rattle.mq_local.specs.Many.{AnswersMany}
use Rattle.mq_system.specs.declared.many.TheConstants.{MAX_BATCH}
use Rattle.mq.specs.LocalBatches.{receives_text}
use Rattle.mq.proofs.local_caller.LocalCaller.receive_texts.Goals as goal

pub returns-clause-answer : goal.returns-clause-answer
returns-clause-answer g c =
    let fits : SFits w64 c.in-Some.msgtyp = search rules in
    let told = simp to_z-of_z at c.msgrcv_many-ended.ensures.answer in
    let seat = c.args.self.now.seat in
    let moment = c.args.self.now.of.now.moment in
    let before = c.args.self.now.of.now.queues in
    let after = c.msgrcv_many-ended.new.self in
    let out = c.msgrcv_many-ended.new.out.items in
    let n = min c.args.most MAX_BATCH in
    let chosen : selection_of c.in-Some.msgtyp c.in-Some.except ≡ c.args.selection = search rules in
    let many : AnswersMany (receives_text seat c.args.id c.args.selection moment) c.args.id n before after
    out c.msgrcv_many-ended.result =
    subst (λ (s : Selection). AnswersMany (receives_text seat c.args.id s moment) c.args.id n before after
    out c.msgrcv_many-ended.result) chosen (search (rules, told)) in
    inl (rw c.from_vec.ensures.items many)
