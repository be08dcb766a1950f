-- The event that is pending.
use Rattle.std.proofs.Common.{◌≡◌, ℤ, List, [], ◌∷◌, ◌++◌, Bool, true, false, ap, sym, ◌∙◌}
use Rattle.mq_queue.specs.declared.event.Event.{Event}
use Rattle.mq_queue.specs.declared.figures.BoardRow.{BoardRow}
use Rattle.mq_queue.specs.declared.figures.Figures.{Figures}
use Rattle.mq_queue.specs.Log.{made_key}
use Rattle.mq_queue.specs.Row.{last_log, row, slot_figures}
use Rattle.mq_board.specs.declared.posting.Posting.{Posting}
use Rattle.mq_board.specs.Rows.{row_after}
use Rattle.mq_board.specs.Writers.{HasOnePending, pending_in}
use Rattle.mq_board.proofs.Rows.{row_next}

-- it has the figures of the list with it
pub figures_posted : (events published : List Event) (pending : List Posting) (p : Posting) (there : Bool)
    → HasOnePending published pending → pending_in there p ≡ pending → events ≡ published
    → p.after ≡ slot_figures (events ++ p.event ∷ [])
figures_posted events published pending p false one list same = absurd (cc (list, one.one))
figures_posted events published pending p true one list same =
    let next : p ≡ one.next = cc (list, one.one) in
    ap (λ (q : Posting). q.after) next
    ∙ (one.figures
    ∙ (ap (λ (q : Posting). slot_figures (published ++ q.event ∷ [])) (sym next)
    ∙ ap (λ (es : List Event). slot_figures (es ++ p.event ∷ [])) (sym same)))

-- the row with one event more
pub row_posted : (events more : List Event) (event : Event) (after : Figures) (old next : BoardRow) (key : ℤ)
    → next ≡ row_after old key event after → old ≡ row events → key ≡ made_key (last_log events)
    → after ≡ slot_figures (events ++ event ∷ []) → more ≡ events ++ event ∷ [] → next ≡ row more
row_posted events more event after old next key is row_is key_is figures more_is =
    is
    ∙ (ap (λ (k : ℤ). row_after old k event after) key_is
    ∙ (ap (λ (r : BoardRow). row_after r (made_key (last_log events)) event after) row_is
    ∙ (row_next events event after figures ∙ ap row (sym more_is))))
