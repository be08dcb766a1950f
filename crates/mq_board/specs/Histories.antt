-- What is published on a board, and how it is kept: as the log of a book, of which one word, the
-- number of the events, is in memory. An entry of the log is a batch: the events that one step
-- published, in order.
use Rattle.std.specs.Prelude.{◌≡◌, ℕ, true, List, ◌++◌, length, ◌<◌}
use Rattle.std.specs.List.{flat_map}
use Rattle.logbook.specs.Pages.{Book, Cell, Named, Step, View, cell}
use Rattle.mq_queue.specs.declared.event.Event.{Event}

-- the first events that were published on the board with this number
pub record History : Type 0 where
  pub board : ℕ
  pub events : List Event

abbrev pub history : ℕ → List Event → History
history board events = record { board = board; events = events }

-- the word of a history
abbrev pub word_of : Book → Named
word_of book = record { tracked = true; key = 0; book = book }

-- the events of a log, batch after batch
abbrev pub events_of : List (List Event) → List Event
events_of log = flat_map (λ batch. batch) log

-- the invariant: the word is the number of the events
pub record IsCounted (cells : List Cell) (log : List (List Event)) : Type 0 where
  pub inside : 0 < length cells
  pub head : cell cells 0 ≡ (length (events_of log), true)

-- where the view had all events, the batch was appended
abbrev pub Adds : Step (List Event) → View (List Event) ℕ → ℕ → View (List Event) ℕ → Type 0
Adds s v found w =
    length (events_of v.0) ≡ s.old → found ≡ s.old → events_of w.0 ≡ events_of v.0 ++ s.ask

-- the view has all events
abbrev pub LearnsAll : Step (List Event) → View (List Event) ℕ → ℕ → View (List Event) ℕ → Type 0
LearnsAll s v found w = found ≡ length (events_of w.0)
