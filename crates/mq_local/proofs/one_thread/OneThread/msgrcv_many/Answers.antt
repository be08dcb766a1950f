use Rattle.std.proofs.Common.{◌∷◌, [], arith, length-append, ◌∙◌, rules}
use mir.Val.{SFits, of_z, to_z}
use mir.Syntax.{w64}
use Rattle.std.proofs.lemmas.Int.{to_z-of_z}
use Rattle.std.proofs.lemmas.Fn.{FoldsTo-push}
use Rattle.mq_calls.specs.Look.{Answer}
use Rattle.mq_calls.specs.State.{QueuesState}
use Rattle.mq_arena.specs.Text.{PlainText}
use Rattle.mq_calls.specs.declared.results.Delivered.{Delivered}
use Rattle.mq_local.specs.Many.{Receives, receive_of}
use Rattle.mq_local.proofs.one_thread.OneThread.msgrcv_many.Goals as goal

pub returns-clause-answer : goal.returns-clause-answer
returns-clause-answer g c =
    let fits : SFits w64 c.args.msgtyp = search rules in
    let had = simp to_z-of_z at c.loop-done.invariant in
    record { turns = had.0; all = omega (arith, had.1, c.loop-done-test.false, c.loop-done.auto._done-end); refused = tt }

pub returns-in-Err-clause-answer : goal.returns-in-Err-clause-answer
returns-in-Err-clause-answer g c =
    let fits : SFits w64 c.args.msgtyp = search rules in
    let had = simp to_z-of_z at c.loop-done.invariant in
    let told = simp to_z-of_z at c.in-Err.ensures.answer in
    record {
      turns = rw told.unchanged had.0;
      all = omega (arith, c.loop-done-test.true, had.1);
      refused = rw told.unchanged told.refused;
    }

pub loop-done-preserved : goal.loop-done-preserved
loop-done-preserved g c =
    let had = c.loop-done.invariant in
    let d = c.in-Ok.delivered in
    let ds = c.loop-done.out.items in
    let asked : QueuesState → Answer (Delivered PlainText) =
    receive_of c.args.seat c.args.id c.args.size (to_z w64 (of_z w64 c.args.msgtyp)) c.args.except
    c.args.noerror c.args.moment in
    let told : Receives asked c.loop-done.self d c.msgrcv.new.self =
    search (rules, c.in-Ok.ensures.answer) in
    let grown = c.push_reserved.ensures in
    rw grown.items (
      FoldsTo-push (Receives asked) c.args.self.now ds c.loop-done.self d c.msgrcv.new.self had.0 told,
      omega (arith, had.1, length-append ds (d ∷ [])),
      grown.capacity ∙ had.2,
    )
