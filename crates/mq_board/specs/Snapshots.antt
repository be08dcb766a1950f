-- What a board shows.
use Rattle.std.specs.Prelude.{◌≡◌, ℕ, List, [], fold}
use Rattle.logbook.specs.Pages.{Book}
use Rattle.mq_queue.specs.declared.event.Event.{Event}

-- the first events of a history, of the board with this number
pub record SnapshotState : Type 0 where
  pub board : ℕ
  pub book : Book
  pub events : List Event

abbrev pub snapshot_of : ℕ → Book → List Event → SnapshotState
snapshot_of board book events = record { board = board; book = book; events = events }

-- where no board is
abbrev pub nothing : SnapshotState
nothing = snapshot_of 0 (record { number = 0; log_name = 0; cells_name = 0 }) []

-- a snapshot is of the history that the board has by this name
abbrev pub IsOfBoard : (ℕ → Book) → SnapshotState → Type 0
IsOfBoard board s = s.book ≡ board s.board

-- what is published once all of these are appended to what is published now
abbrev pub newest : SnapshotState → List SnapshotState → SnapshotState
newest now later = fold (λ _ next. next) now later
