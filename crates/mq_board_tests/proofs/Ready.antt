-- What may be published of a queue.
use Rattle.std.proofs.Common.{◌≡◌, ◌<◌, ◌^◌, Bool, true, false, not, cond, List, [], ◌∷◌, ◌++◌, length, map, refl, ap, sym, ◌∙◌, subst, arith}
use Rattle.mq_queue.specs.declared.base.Base.{Base}
use Rattle.mq_queue.specs.declared.event.Event.{Event}
use Rattle.mq_queue.specs.declared.figures.Figures.{Figures}
use Rattle.mq_queue.specs.Figures.{figures, live_figures, no_figures}
use Rattle.mq_queue.specs.Base.{base_of, figures_from}
use Rattle.mq_queue.specs.Lawful.{Lawful}
use Rattle.mq_queue.specs.LawfulFrom.{LawfulFrom}
use Rattle.mq_queue.specs.Log.{ends_with_removed}
use Rattle.mq_queue.specs.Row.{made_count, slot_figures}
use Rattle.mq_queue.proofs.Uncut.{lawful_uncut}
use Rattle.mq_table.proofs.Logs.{counted, last_log_is, made_once}
use Rattle.mq_board.specs.Writers.{WriterState, HasOnePending, posting}
use Rattle.mq_board_tests.specs.Shown.{IsPending, IsShown}

-- once a queue is removed there are no figures, in its log as in its slot
shown_once : (removed : Bool) (live : Figures)
    → cond (not removed) (cond removed no_figures live) no_figures
    ≡ cond removed no_figures live
shown_once true live = refl
shown_once false live = refl

-- the figures of a queue's log are those of its slot
slot_is : (log : List Event) → Lawful log → slot_figures log ≡ figures log
slot_is log lawful =
    rw (last_log_is [] log lawful, lawful.begun)
    (shown_once (ends_with_removed log) (live_figures log))

-- the last event of a queue may be published, where those before it are
pub ready : (events log : List Event) (event : Event) (after : Figures) → log ≡ events ++ event ∷ []
    → Lawful log → after ≡ figures log → length events < 2 ^ 63
    → HasOnePending events (posting event after ∷ [])
ready events log event after is lawful same short = record {
  next = posting event after;
  one = refl;
  figures = same ∙ (sym (slot_is log lawful) ∙ ap slot_figures is);
  length_fits = omega (arith, short);
  made_fits = omega (arith, ap made_count is, counted events (event ∷ []), made_once log lawful);
}

-- so it may be where a writer that had nothing pending took it in
pub taken : (old new : WriterState) (log : List Event) (event : Event) → old.pending ≡ []
    → new ≡ record old { pending = old.pending ++ posting event (figures log) ∷ [] }
    → log ≡ old.events ++ event ∷ [] → Lawful log → length old.events < 2 ^ 63
    → HasOnePending new.events new.pending
taken old new log event idle took is lawful short =
    let Ready : WriterState → Type 0 = λ desk. HasOnePending desk.events desk.pending in
    subst Ready (sym took)
    (rw idle (ready old.events log event (figures log) is lawful refl short))

-- so it may be of a queue whose log was not drained
pub taken_from : (base : Base) (old new : WriterState) (log : List Event) (event : Event)
    → base ≡ base_of [] → old.pending ≡ []
    → new ≡ record old { pending = old.pending ++ posting event (figures_from base log) ∷ [] }
    → log ≡ old.events ++ event ∷ [] → LawfulFrom base log → length old.events < 2 ^ 63
    → HasOnePending new.events new.pending
taken_from base old new log event none idle took is lawful short =
    taken old new log event idle
    (subst (λ (b : Base). new ≡ record old { pending = old.pending ++ posting event (figures_from b log) ∷ [] }) none took)
    is (lawful_uncut log (subst (λ (b : Base). LawfulFrom b log) none lawful)) short

-- and it is what is pending then
pub pending : (base base' : Base) (before log : List Event) (old new : WriterState)
    (event : Event) → base' ≡ base → IsShown base before old
    → new ≡ record old { pending = old.pending ++ posting event (figures_from base' log) ∷ [] }
    → log ≡ before ++ event ∷ [] → LawfulFrom base' log → length before < 2 ^ 63
    → IsPending base' log new
pending base base' before log old new event same shown took is lawful short =
    let none : base' ≡ base_of [] = same ∙ shown.0 in
    let is' : log ≡ old.events ++ event ∷ [] = rw shown.1 is in
    let short' : length old.events < 2 ^ 63 = rw shown.1 short in
    let Whole : WriterState → Type 0 = λ desk. desk.events ++ map (λ p. p.event) desk.pending ≡ log in (
      none,
      taken_from base' old new log event none shown.2 took is' lawful short',
      subst Whole (sym took) (rw shown.2 (sym is')),
    )
