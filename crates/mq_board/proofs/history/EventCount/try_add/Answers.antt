use Rattle.std.proofs.Common.{◌≡◌, List, ◌++◌, length, sym, ◌∙◌, ap}
use Rattle.crossbeam_utils.specs.Padded.{padded_value}
use Rattle.mq_queue.specs.declared.event.Event.{Event}
use Rattle.mq_board.specs.Histories.{word_of, events_of}
use Rattle.mq_board.proofs.Counting.{adds_moves}
use Rattle.mq_board.proofs.history.EventCount.try_add.Goals as goal

pub compare_exchange-found-requires : goal.compare_exchange-found-requires
compare_exchange-found-requires g c =
    let h : c.deref-word.result.now ≡ word_of (g.J.Naming.board c.self.inside.number) =
    c.deref-word.ensures ∙ (ap padded_value c.deref.ensures ∙ c.self.invariant) in
    let name : c.deref-word.result.now.book ≡ g.J.Naming.board c.args.self.now =
    ap (λ w. w.book) h ∙ ap g.J.Naming.board c.self.view_is in
    let book : c.again-more.result.book ≡ c.deref-word.result.now.book =
    ap (λ s. s.book) c.again-more.ensures ∙ (c.requires.book ∙ sym name) in
    let offer = c.plain-offer.ensures in
    let pen = c.no_pen-pen.ensures in
    let count : c.args.count ≡ length (events_of c.again-more.result.log) =
    c.requires.count ∙ ap (λ s. length (events_of s.log)) (sym c.again-more.ensures) in
    let next : c.args.next ≡ length (events_of c.again-more.result.log ++ c.plain-offer.result.ask) =
    c.requires.next
    ∙ (ap (λ s. length (events_of s.log ++ g.M.Plain.ask c.args.added.now)) (sym c.again-more.ensures)
    ∙ ap (λ (es : List Event). length (events_of c.again-more.result.log ++ es)) (sym offer.1)) in (
      ap (λ w. w.tracked) h,
      book,
      pen.0 ∙ book,
      offer.0,
      rw (ap (λ w. w.key) h, pen.1, offer.3, c.requires.idle)
          (adds_moves c.again-more.result.log c.plain-offer.result.ask c.args.count c.args.next count next),
    )
