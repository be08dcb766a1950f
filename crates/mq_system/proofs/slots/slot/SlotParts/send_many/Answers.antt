use Rattle.std.proofs.Common.{◌≡◌, ◌<◌, ◌∷◌, ◌++◌, [], List, ap, length, refl, sym, ◌∙◌, append_assoc, arith, length-append, rules, subst}
use mir.Val.{SFits}
use mir.Syntax.{w64}
use Rattle.std.proofs.lemmas.Int.{to_z-of_z}
use Rattle.std.specs.List.{FoldsTo}
use Rattle.std.proofs.lemmas.Fn.{FoldsTo-push}
use Rattle.std.proofs.lemmas.List.Elements.{All-rest}
use Rattle.mq_arena.specs.Text.{PlainText}
use Rattle.mq_system.specs.Many.{IsRefusedBy, Sends, Under, send_of, under_all}
use Rattle.mq_system.specs.declared.many.Letter.{Letter}
use Rattle.mq_system.specs.Shared.{locked}
use Rattle.mq_system.proofs.RestLemmas.{behind_none}
use Rattle.mq_system.proofs.TurnLemmas.{sends_next, start_is, turn_changes}
use Rattle.mq_system.proofs.slots.slot.SlotParts.send_many.Goals as goal

pub loop-done-init : goal.loop-done-init
loop-done-init g c =
    let kept = c.requires.shared.published.kept in (
      [],
      search rules,
      start_is c.args.self.now.writer.events c.args.self.now.slot c.args.seat.now kept c.requires.begun.known,
      cc (c.requires.begun.slot_is),
      search rules,
      search rules,
      search rules,
      behind_none _ _ _ c.args.seat.now.number c.args.self.now.writer c.args.self.now.slot _ _ c.requires.shared,
    )

pub loop-done-preserved : goal.loop-done-preserved
loop-done-preserved g c =
    let had = c.loop-done.invariant in
    let l = c.in-Some.letter in
    let fits : SFits w64 c.in-Some.letter.mtype = search rules in
    let rest = c.pop_front.new.self.items in
    let writer = c.loop-done.self.writer in
    let seat = c.args.seat.now in
    let start : Under = record { slot = locked c.args.self.now.writer.events c.args.self.now.slot; seat = seat } in
    let mid : Under = under_all writer.events c.loop-done.self.slot seat in
    let next : Under = under_all writer.events c.send.new.self.slot seat in
    let low : c.loop-done.self.slot.number < length seat.by_slot =
    omega (arith, c.holds.ensures.each, had.7.shared.within) in
    let told = turn_changes writer.events c.loop-done.self.slot c.send.new.self.slot seat _ _ low (rw c.in-Ok.ensures.writer at c.in-Ok.ensures.answer) in
    rw c.in-Ok.ensures.writer (
      had.0 ++ l ∷ [],
      had.1 ∙ ap (λ (x : List (Letter PlainText)). had.0 ++ x) c.in-Some.ensures.items
          ∙ sym (append_assoc had.0 (l ∷ []) rest),
      FoldsTo-push (Sends c.args.id c.args.moment) start had.0 mid l next had.2
          (sends_next c.args.id c.args.moment mid next l _ told),
      had.3 ∙ sym c.in-Ok.ensures.answer.number,
      All-rest (λ x. g.P.Pledge.kept c.args.seat.now.number x.tag x.mtype x.text.bytes) l rest
          c.loop-done.letters.items c.in-Some.ensures.items had.4,
      omega (arith, had.5, length-append had.0 (l ∷ [])),
      had.6,
      rw c.in-Ok.ensures.writer at c.in-Ok.ensures.behind,
    )

pub returns-in-Err : goal.returns-in-Err
returns-in-Err g c =
    let had = c.loop-done.invariant in
    let l = c.in-Some.letter in
    let fits : SFits w64 c.in-Some.letter.mtype = search rules in
    let told = c.in-Err.ensures.answer in
    let rest = c.pop_front.new.self.items in
    let seat = c.args.seat.now in
    let back = simp to_z-of_z at c.push_front_reserved.ensures.items in
    let same : c.push_front_reserved.new.self.items ≡ l ∷ rest =
    back ∙ ap (λ (t : PlainText). record { mtype = l.mtype; tag = l.tag; text = t } ∷ rest) c.in-Err.ensures.handed_back in
    let start : Under = record {
      slot = locked c.args.self.now.writer.events c.args.self.now.slot;
      seat = seat;
    } in
    let unchanged : under_all c.send.new.self.writer.events c.send.new.self.slot seat ≡ under_all c.loop-done.self.writer.events c.loop-done.self.slot seat =
    rw (c.in-Err.ensures.slot, c.in-Err.ensures.writer) refl in
    record {
      behind = c.in-Err.ensures.behind;
      writer = c.in-Err.ensures.writer ∙ had.6;
      answer = record {
        sent = had.0;
        split = had.1 ∙ ap (λ (x : List (Letter PlainText)). had.0 ++ x) (c.in-Some.ensures.items ∙ sym same);
        turns =
            subst (λ (u : Under). FoldsTo (Sends c.args.id c.args.moment) start had.0 u)
            (sym unchanged) had.2;
        all = omega (arith, c.loop-done-test.true, had.5);
        refused = record {
          first = l;
          others = rest;
          is = same;
          refused =
              subst (λ (u : Under). IsRefusedBy (send_of c.args.id c.args.moment l) u
              c.in-Err.field-0.refused)
              (sym unchanged) told.why;
        };
      };
    }
