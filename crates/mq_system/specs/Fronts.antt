-- The readers of a system's boards, one of each at each place, and what they know.
use Rattle.std.specs.Prelude.{◌≡◌, ℕ, ◌<◌, List, length, map, slice_index_or}
use Rattle.std.specs.Global.{Vec}
use Rattle.mq_queue.specs.declared.event.Event.{Event}
use Rattle.mq_board.specs.Readers.{ReaderState, new_readers}

-- a place, the same on each board, and for each slot the front there: the published events that
-- are known
pub record FrontsState : Type 0 where
  pub place : ℕ
  pub fronts : List (List Event)

-- the readers of the boards, one of each in order, all at this place
abbrev pub AreReaders : ℕ → List ReaderState → Type 0
AreReaders place readers = (k : ℕ) (d : ReaderState) → k < length readers
    → ((slice_index_or readers k d).board ≡ k) × ((slice_index_or readers k d).place ≡ place)

-- of each board in order the readers with the first places, so many
abbrev pub AreRows : ℕ → List (Vec ReaderState) → Type 0
AreRows places rows = (k : ℕ) (d : Vec ReaderState) → k < length rows
    → (slice_index_or rows k d).items ≡ new_readers k places

abbrev pub fronts_of : List ReaderState → List (List Event)
fronts_of readers = map (λ r. r.events) readers
