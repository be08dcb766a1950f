use Rattle.std.proofs.Common.{◌≡◌, ◌∷◌, ◌++◌, [], List, Ok, ap, sym, ◌∙◌, append_assoc, arith, length-append, rules}
use mir.Val.{SFits}
use mir.Syntax.{w64}
use Rattle.std.proofs.lemmas.Int.{to_z-of_z}
use Rattle.std.proofs.lemmas.Fn.{FoldsTo-push}
use Rattle.mq_arena.specs.Text.{PlainText}
use Rattle.mq_system.specs.declared.many.Letter.{Letter}
use Rattle.mq.specs.LocalBatches.{SendsLetter, sends_letter}
use Rattle.mq.proofs.LocalBatchLemmas.{entry_more}
use Rattle.mq.proofs.local_caller.LocalCaller.send_texts.Goals as goal

pub loop-done-preserved : goal.loop-done-preserved
loop-done-preserved g c =
    let had = c.loop-done.invariant in
    let l = c.in-Some.letter in
    let start = c.args.self.now.of.now.queues in
    let seat = c.args.self.now.seat in
    let moment = c.args.self.now.of.now.moment in
    let fits : SFits w64 c.in-Some.letter.mtype = search rules in
    let told = simp (to_z-of_z, had.5, had.6) at c.in-Ok.ensures.answer in
    let now = c.loop-done.self.of.now.queues in
    let next = c.send_text.new.self.of.now.queues in
    let sends : sends_letter seat c.args.id moment l now ≡ Ok (c.in-Ok.entry, next) =
    search (rules, told) in
    let rest = c.pop_front.new.self.items in (
      had.0 ++ l ∷ [],
      had.1 ∙ ap (λ (x : List (Letter PlainText)). had.0 ++ x) c.in-Some.ensures.items
          ∙ sym (append_assoc had.0 (l ∷ []) rest),
      rw c.or-first.ensures (entry_more seat c.args.id moment start now next had.0 l c.loop-done.first
          c.in-Ok.entry had.2 had.3 sends),
      FoldsTo-push (SendsLetter seat c.args.id moment) start had.0 now l next had.3
          (record { entry = c.in-Ok.entry; sent = sends }),
      omega (arith, had.4, length-append had.0 (l ∷ [])),
      c.in-Ok.ensures.seat ∙ had.5,
      c.in-Ok.ensures.moment ∙ had.6,
      c.in-Ok.ensures.same_reference ∙ had.7,
    )

pub returns-in-Err-clause-answer : goal.returns-in-Err-clause-answer
returns-in-Err-clause-answer g c =
    let had = c.loop-done.invariant in
    let l = c.in-Some.letter in
    let fits : SFits w64 c.in-Some.letter.mtype = search rules in
    let told = simp (to_z-of_z, had.5, had.6) at c.in-Err.ensures.answer in
    let rest = c.pop_front.new.self.items in
    let back = simp to_z-of_z at c.push_front_reserved.ensures.items in
    let same : c.push_front_reserved.new.self.items ≡ l ∷ rest =
    back ∙ ap (λ (t : PlainText). record { mtype = l.mtype; tag = l.tag; text = t } ∷ rest) told.handed_back in
    record {
      sent = had.0;
      split = had.1 ∙ ap (λ (x : List (Letter PlainText)). had.0 ++ x) (c.in-Some.ensures.items ∙ sym same);
      entry = had.2;
      turns = rw told.unchanged had.3;
      all = omega (arith, c.loop-done-test.true, had.4);
      refused = record {
        first = l;
        others = rest;
        is = same;
        refused = rw told.unchanged told.refused;
      };
    }
