use Rattle.std.proofs.Common.{◌≡◌, ◌<◌, ◌∷◌, [], arith, length, length-append, refl, rules, subst, sym, ◌∙◌}
use Rattle.std.specs.List.{FoldsTo}
use Rattle.std.proofs.lemmas.Fn.{FoldsTo-push}
use Rattle.std.proofs.lemmas.List.Elements.{All-push}
use Rattle.mq_arena.specs.Text.{PlainText}
use Rattle.mq_calls.specs.declared.results.Delivered.{Delivered}
use Rattle.mq_system.specs.Pledge.{MeetsItsPledge}
use Rattle.mq_system.specs.Many.{Changes, Decides, IsRefusedBy, Under, receive_of, under_all}
use Rattle.mq_system.specs.Shared.{locked}
use Rattle.mq_system.proofs.RestLemmas.{behind_none}
use Rattle.mq_system.proofs.TurnLemmas.{start_is, turn_changes}
use Rattle.mq_system.proofs.slots.slot.SlotParts.receive_many.Goals as goal

pub loop-done-init : goal.loop-done-init
loop-done-init g c =
    let kept = c.requires.shared.published.kept in
    let asked : Decides (Delivered PlainText) =
    receive_of c.args.request.now.id c.args.request.now.size c.args.request.now.selection c.args.request.now.noerror c.args.request.now.moment in
    let start : Under = record { slot = locked c.args.self.now.writer.events c.args.self.now.slot; seat = c.args.seat.now } in
    rw c.requires.empty (
      start_is c.args.self.now.writer.events c.args.self.now.slot c.args.seat.now kept c.requires.begun.known,
      cc (c.requires.begun.slot_is),
      search rules,
      search rules,
      search rules,
      search rules,
      behind_none _ _ _ c.args.seat.now.number c.args.self.now.writer c.args.self.now.slot _ _ c.requires.shared,
    )

pub returns-in-Err-clause-answer : goal.returns-in-Err-clause-answer
returns-in-Err-clause-answer g c =
    let had = c.loop-done.invariant in
    let told = c.in-Err.ensures.answer in
    let seat = c.args.seat.now in
    let start : Under = record {
      slot = locked c.args.self.now.writer.events c.args.self.now.slot;
      seat = seat;
    } in
    let asked : Decides (Delivered PlainText) =
    receive_of c.args.request.now.id c.args.request.now.size c.args.request.now.selection c.args.request.now.noerror c.args.request.now.moment in
    let unchanged : under_all c.receive.new.self.writer.events c.receive.new.self.slot seat ≡ under_all c.loop-done.self.writer.events c.loop-done.self.slot seat =
    rw (c.in-Err.ensures.slot, c.in-Err.ensures.writer) refl in
    record {
      turns =
          subst (λ (u : Under). FoldsTo (Changes asked) start c.loop-done.out.items u)
          (sym unchanged) had.0;
      all = omega (arith, c.loop-done-test.true, had.2);
      refused =
          subst (λ (u : Under). IsRefusedBy asked u c.in-Err.refused) (sym unchanged) told.why;
    }

pub loop-done-preserved : goal.loop-done-preserved
loop-done-preserved g c =
    let had = c.loop-done.invariant in
    let d = c.in-Ok.delivered in
    let ds = c.loop-done.out.items in
    let writer = c.loop-done.self.writer in
    let seat = c.args.seat.now in
    let start : Under = record { slot = locked c.args.self.now.writer.events c.args.self.now.slot; seat = seat } in
    let mid : Under = under_all writer.events c.loop-done.self.slot seat in
    let next : Under = under_all writer.events c.receive.new.self.slot seat in
    let asked : Decides (Delivered PlainText) =
    receive_of c.args.request.now.id c.args.request.now.size c.args.request.now.selection c.args.request.now.noerror c.args.request.now.moment in
    let low : c.loop-done.self.slot.number < length seat.by_slot =
    omega (arith, c.holds.ensures.each, had.6.shared.within) in
    let told = turn_changes writer.events c.loop-done.self.slot c.receive.new.self.slot seat _ _ low (rw c.in-Ok.ensures.writer at c.in-Ok.ensures.answer) in
    let grown = c.push_reserved.ensures in
    rw (grown.items, c.in-Ok.ensures.writer) (
      FoldsTo-push (Changes asked) start ds mid d next had.0 told,
      had.1 ∙ sym c.in-Ok.ensures.answer.number,
      omega (arith, had.2, length-append ds (d ∷ [])),
      grown.capacity ∙ had.3,
      All-push (MeetsItsPledge g.P.Pledge.kept c.args.request.now.size c.args.request.now.noerror) ds d had.4 c.in-Ok.ensures.pledge,
      had.5,
      rw c.in-Ok.ensures.writer at c.in-Ok.ensures.behind,
    )
