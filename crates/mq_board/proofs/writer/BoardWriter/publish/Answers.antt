use Rattle.std.proofs.Common.{rules, ◌≡◌, ℤ, List, ◌∷◌, ◌++◌, [], ap, sym, ◌∙◌, w32, SFits, to_z, of_z}
use Rattle.std.proofs.lemmas.Int.{to_z-of_z}
use Rattle.mq_queue.specs.declared.event.Event.{Event}
use Rattle.mq_queue.specs.Log.{made_key}
use Rattle.mq_queue.specs.Row.{last_log, slot_figures}
use Rattle.mq_board.specs.Histories.{History}
use Rattle.mq_board.specs.Rows.{key_after}
use Rattle.mq_board.proofs.Posted.{figures_posted, row_posted}
use Rattle.mq_board.proofs.Rows.{key_next}
use Rattle.mq_board.proofs.writer.BoardWriter.publish.Goals as goal

pub snapshot-requires : goal.snapshot-requires
snapshot-requires g c =
    let kept = c.self.invariant.0 in
    let events = c.self.inside.history.events in
    let posted = c.self.inside.next in
    let figures : posted.after ≡ slot_figures (events ++ posted.event ∷ []) =
    figures_posted events c.args.self.now.events c.args.self.now.pending posted c.self.inside.is_pending
    c.requires (ap (λ w. w.pending) c.self.view_is)
    (ap (λ w. w.events) c.self.view_is) in
    let old : SFits w32 c.self.inside.key = search rules in
    let key : to_z w32 (of_z w32 c.self.inside.key) ≡ made_key (last_log events) =
    to_z-of_z w32 c.self.inside.key old ∙ kept.last in
    row_posted events c.add.new.self.events posted.event posted.after c.self.inside.row
    c.next_row-self-inside.result (to_z w32 (of_z w32 c.self.inside.key)) c.next_row-self-inside.ensures kept.kept key
    figures (ap (λ (h : History). h.events) c.add.ensures)

pub invariant_of-self : goal.invariant_of-self
invariant_of-self g c =
    let kept = c.self.invariant.0 in
    let events = c.self.inside.history.events in
    let posted = c.self.inside.next in
    let figures : posted.after ≡ slot_figures (events ++ posted.event ∷ []) =
    figures_posted events c.args.self.now.events c.args.self.now.pending posted c.self.inside.is_pending
    c.requires (ap (λ w. w.pending) c.self.view_is)
    (ap (λ w. w.events) c.self.view_is) in
    let old : SFits w32 c.self.inside.key = search rules in
    let new : SFits w32 c.next_key-self-inside.result = search rules in
    let key : to_z w32 (of_z w32 c.self.inside.key) ≡ made_key (last_log events) =
    to_z-of_z w32 c.self.inside.key old ∙ kept.last in
    let more : c.add.new.self.events ≡ events ++ posted.event ∷ [] =
    ap (λ (h : History). h.events) c.add.ensures in
    let last : c.next_key-self-inside.result ≡ made_key (last_log c.add.new.self.events) =
    c.next_key-self-inside.ensures
    ∙ (ap (λ (k : ℤ). key_after k posted.event) key
    ∙ (key_next events posted.event
    ∙ ap (λ (es : List Event). made_key (last_log es)) (sym more))) in (
      record {
        roll_is = kept.roll_is ∙ ap (λ (h : History). h.board) (sym c.add.ensures);
        kept = row_posted events c.add.new.self.events posted.event posted.after c.self.inside.row
            c.next_row-self-inside.result (to_z w32 (of_z w32 c.self.inside.key)) c.next_row-self-inside.ensures
            kept.kept key figures more;
        last = to_z-of_z w32 c.next_key-self-inside.result new ∙ last;
      },
      search rules,
    )
