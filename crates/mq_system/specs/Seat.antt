-- The seats of a system's callers.
use Rattle.std.specs.Prelude.{◌≡◌, ℕ, ◌+◌, ◌*◌, ◌^◌, ◌<◌, ◌≤◌, ◌==◌, List, [], ◌∷◌, ◌++◌, All, length, replicate}
use Rattle.std.specs.Prelude.{count_by, slice_index, slice_index_or, slice_set}
use Rattle.std.specs.List.{sum, sum_by}
use mathlib.Core.List.{IsPrefix}
use Rattle.mq_queue.specs.declared.event.Event.{Event}
use Rattle.mq_queue.specs.declared.event.Event.TheVariants.{Made, Sent, Received, Changed, Removed}
use Rattle.mq_board.specs.Readers.{ReaderState}
use Rattle.mq_system.specs.Fronts.{AreReaders, fronts_of}
use Rattle.mq_system.specs.declared.seat.TheConstants.{MAX_COUNT}

-- the seat that made a change
abbrev pub seat_of : Event → ℕ
seat_of (Made seat moment key) = seat
seat_of (Sent seat moment tag mtype n) = seat
seat_of (Received seat noerror moment place selection size) = seat
seat_of (Changed seat moment qbytes) = seat
seat_of (Removed seat moment) = seat

-- how many of the changes a seat made
abbrev pub events_by : ℕ → List Event → ℕ
events_by seat events = count_by (λ e. seat_of e == seat) events

-- one event more, which this seat made
pub record IsNext (seat : ℕ) (old new : List Event) : Type 0 where
  pub event : Event
  pub own : seat_of event ≡ seat
  pub next : new ≡ old ++ event ∷ []

-- so many events more, all made by this seat
pub record AreNext (seat : ℕ) (old new : List Event) (count : ℕ) : Type 0 where
  pub events : List Event
  pub own : All (λ e. seat_of e ≡ seat) events
  pub next : new ≡ old ++ events
  pub many : length events ≡ count

-- a seat has a number, for each slot how many changes it made there, and for each slot a front: the
-- first events of the slot, as far as the seat knows them
pub record SeatState : Type 0 where
  pub number : ℕ
  pub by_slot : List ℕ
  pub fronts : List (List Event)

-- the front of a slot
abbrev pub front_of : SeatState → ℕ → List Event
front_of seat slot = slice_index_or seat.fronts slot []

-- each front has at least as many changes of the seat as it counts there
abbrev pub AreKnown : ℕ → ℕ → List (List Event) → List ℕ → Type 0
AreKnown slots number fronts by_slot = (slot : ℕ) → slot < slots
    → slice_index by_slot slot ≤ events_by number (slice_index_or fronts slot [])

-- a number from 1 to the number of seats, a count and a reader for each slot, of which there are
-- less than 256, at the place of this number, and a part of the ledger of entries that has as much
-- as its counts can still grow
pub record IsSeat (seats slots number : ℕ) (readers : List ReaderState) (by_slot : List ℕ)
    (parts amount : ℕ) : Type 0 where
  pub some : 1 ≤ number
  pub few : number ≤ seats
  pub few_slots : slots < 2 ^ 8
  pub each : length by_slot ≡ slots
  pub readers_each : length readers ≡ slots
  pub placed : AreReaders number readers
  pub part : parts ≡ 1
  pub bounded : All (λ count. count ≤ MAX_COUNT) by_slot
  pub left : amount + sum by_slot ≡ slots * MAX_COUNT
  pub known : AreKnown slots number (fronts_of readers) by_slot

-- a call made no change
pub record IsSame (old new : SeatState) : Type 0 where
  pub number : new.number ≡ old.number
  pub by_slot : new.by_slot ≡ old.by_slot

-- a call has counted once for its caller's seat, in this slot and in no other
pub record IsCounted (old new : SeatState) (slot : ℕ) : Type 0 where
  pub within : slot < length old.by_slot
  pub number : new.number ≡ old.number
  pub by_slot : new.by_slot ≡ slice_set old.by_slot slot (slice_index old.by_slot slot + 1)
  pub total : sum new.by_slot ≡ sum old.by_slot + 1

-- a seat that counts so many changes more in a slot, and has learned these events of it
abbrev pub noted_more : SeatState → ℕ → ℕ → List Event → SeatState
noted_more seat slot count events = record seat {
  by_slot = slice_set seat.by_slot slot (slice_index seat.by_slot slot + count);
  fronts = slice_set seat.fronts slot events;
}

-- each front begins with the one before
pub record IsLater (old new : SeatState) : Type 0 where
  pub count : length new.fronts ≡ length old.fronts
  pub later : (slot : ℕ) → IsPrefix (front_of old slot) (front_of new slot)

-- a seat that has made no change and knows of none
abbrev pub fresh_seat : ℕ → ℕ → SeatState
fresh_seat slots number =
    record { number = number; by_slot = replicate slots 0; fronts = replicate slots [] }

-- the changes that all seats made together
abbrev pub counted_by : List SeatState → ℕ
counted_by seats = sum_by (λ seat. sum seat.by_slot) seats
