-- A system in which nothing has happened.
use Rattle.std.specs.Prelude.{◌≡◌, ℕ, ◌+◌, ◌<◌, List, length, slice_index_or}
use Rattle.mq_system.specs.Seat.{SeatState, fresh_seat}
use Rattle.mq_system.specs.Shared.{LockedSlot, empty_locked}

-- each slot has its place as its number, and no queue was made in it
abbrev pub AreEmpty : List LockedSlot → Type 0
AreEmpty slots = (k : ℕ) (d : LockedSlot) → k < length slots
    → slice_index_or slots k d ≡ empty_locked k

-- the seats have the numbers from 1 on, in order, have made no change and know of none
abbrev pub AreFresh : ℕ → List SeatState → Type 0
AreFresh slots seats = (k : ℕ) (d : SeatState) → k < length seats
    → slice_index_or seats k d ≡ fresh_seat slots (k + 1)
