-- The writer of a board.
use Rattle.std.specs.Prelude.{◌≡◌, ℕ, ℤ, ◌-◌, ◌<◌, ◌^◌, Bool, true, false, List, [], ◌∷◌, ◌++◌, length}
use Rattle.mq_queue.specs.declared.event.Event.{Event}
use Rattle.mq_queue.specs.declared.figures.BoardRow.{BoardRow}
use Rattle.mq_queue.specs.declared.figures.Figures.{Figures}
use Rattle.mq_queue.specs.Log.{made_key}
use Rattle.mq_queue.specs.Row.{last_log, made_count, row, slot_figures}
use Rattle.mq_board.specs.declared.posting.Posting.{Posting}
use Rattle.mq_board.specs.Histories.{History}

abbrev pub posting : Event → Figures → Posting
posting event after = record { event = event; after = after }

-- a writer: its board, the published list, what is pending, and the places that were freed
pub record WriterState : Type 0 where
  pub board : ℕ
  pub events : List Event
  pub pending : List Posting
  pub home : List ℕ

-- what is pending: this event, or none
abbrev pub pending_in : Bool → Posting → List Posting
pending_in true next = next ∷ []
pending_in false next = []

-- one event is pending, with the figures of the published list with it, and that list is not too
-- long
pub record HasOnePending (events : List Event) (pending : List Posting) : Type 0 where
  pub next : Posting
  pub one : pending ≡ next ∷ []
  pub figures : next.after ≡ slot_figures (events ++ next.event ∷ [])
  pub length_fits : length events < 2 ^ 64 - 1
  pub made_fits : made_count events < 67108864

-- what a writer keeps: the row and the last key of what it published
pub record IsWriter (published : History) (roll : ℕ) (row_is : BoardRow) (key : ℤ)
    : Type 0 where
  pub roll_is : roll ≡ published.board
  pub kept : row_is ≡ row published.events
  pub last : key ≡ made_key (last_log published.events)
