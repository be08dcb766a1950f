use Rattle.std.proofs.Common.{◌≡◌, sym, ◌∙◌, ap}
use Rattle.crossbeam_utils.specs.Padded.{padded_value}
use Rattle.mq_board.specs.Histories.{word_of}
use Rattle.mq_board.proofs.Counting.{learns_moves}
use Rattle.mq_board.proofs.history.EventCount.load.Goals as goal

pub load-requires : goal.load-requires
load-requires g c =
    let h : c.deref-word.result.now ≡ word_of (g.J.Naming.board c.self.inside.number) =
    c.deref-word.ensures ∙ (ap padded_value c.deref.ensures ∙ c.self.invariant) in
    let name : c.deref-word.result.now.book ≡ g.J.Naming.board c.args.self.now =
    ap (λ w. w.book) h ∙ ap g.J.Naming.board c.self.view_is in
    let offer = c.plain-offer.ensures in (
      ap (λ w. w.tracked) h,
      c.requires ∙ sym name,
      offer.0,
      rw (ap (λ w. w.key) h, offer.3)
          (learns_moves c.args.seen.now.log c.plain-offer.result.ask),
    )
