use Rattle.std.proofs.Common.{◌≡◌, ◌∷◌, ◌++◌, [], List, ap, sym, ◌∙◌, append_assoc, arith, length, length-append, rules}
use mir.Val.{SFits}
use mir.Syntax.{w64}
use Rattle.std.proofs.lemmas.Int.{to_z-of_z}
use Rattle.std.proofs.lemmas.Fn.{FoldsTo-push}
use Rattle.std.proofs.lemmas.List.{nil_from_length}
use Rattle.mq_arena.specs.Text.{PlainText}
use Rattle.mq_message.specs.declared.message.Message.{Message}
use Rattle.mq_local.specs.Many.{Sends}
use Rattle.mq_local.proofs.one_thread.OneThread.msgsnd_many.Goals as goal

pub loop-done-preserved : goal.loop-done-preserved
loop-done-preserved g c =
    let had = c.loop-done.invariant in
    let m = c.in-Some.message in
    let fits : SFits w64 c.in-Some.message.mtype = search rules in
    let told = simp to_z-of_z at c.in-Ok.ensures.answer in
    let rest = c.pop_front.new.self.items in (
      had.0 ++ m ∷ [],
      had.1 ∙ ap (λ (x : List (Message PlainText)). had.0 ++ x) c.in-Some.ensures.items
          ∙ sym (append_assoc had.0 (m ∷ []) rest),
      FoldsTo-push (Sends c.args.id c.args.moment) c.args.self.now had.0 c.loop-done.self m
          c.msgsnd.new.self had.2 (record { entry = c.in-Ok._entry; sent = search (rules, told) }),
      omega (arith, had.3, length-append had.0 (m ∷ [])),
    )

pub returns-in-Err : goal.returns-in-Err
returns-in-Err g c =
    let had = c.loop-done.invariant in
    let m = c.in-Some.message in
    let fits : SFits w64 c.in-Some.message.mtype = search rules in
    let told = simp to_z-of_z at c.in-Err.ensures.answer in
    let rest = c.pop_front.new.self.items in
    let back = simp to_z-of_z at c.push_front_reserved.ensures.items in
    let same : c.push_front_reserved.new.self.items ≡ m ∷ rest =
    back ∙ ap (λ (t : PlainText). record { mtype = m.mtype; sender = m.sender; tag = m.tag; body = t } ∷ rest) told.handed_back in
    record {
      answer = record {
        sent = had.0;
        split = had.1 ∙ ap (λ (x : List (Message PlainText)). had.0 ++ x) (c.in-Some.ensures.items ∙ sym same);
        turns = rw told.unchanged had.2;
        all = tt;
        refused = record {
          first = m;
          others = rest;
          is = search (rules, same);
          refused = rw told.unchanged told.refused;
        };
      };
    }

pub returns : goal.returns
returns g c =
    let had = c.loop-done.invariant in
    record {
      answer = record {
        sent = had.0;
        split = had.1;
        turns = had.2;
        all = nil_from_length c.loop-done.messages.items (omega (
          arith,
          had.3,
          c.loop-done-test.false,
          c.len-done-end.ensures,
          ap length had.1,
          length-append had.0 c.loop-done.messages.items,
        ));
        refused = tt;
      };
    }
