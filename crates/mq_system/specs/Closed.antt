-- What a system leaves at its end.
use Rattle.std.specs.Prelude.{◌≡◌, ◌≢◌, ℕ, ◌<◌, List, [], ◌∷◌, ◌++◌, length}
use Rattle.std.specs.Prelude.{slice_index, slice_index_or}
use Rattle.std.specs.List.{AllPairs, sum_by}
use mathlib.Core.List.{IsPrefix}
use Rattle.mq_queue.specs.declared.event.Event.{Event}
use Rattle.mq_calls.specs.Closed.{IsEndOf, entries_at_end}
use Rattle.mq_calls.specs.declared.close.ClosedSlot.{ClosedSlot}
use Rattle.mq_system.specs.Fronts.{FrontsState}
use Rattle.mq_system.specs.Seat.{AreKnown, SeatState, front_of}

-- each slot ended with the list at its place
pub record AreEnds (last_seq : ℕ) (lists : List (List Event)) (slots : List ClosedSlot)
    : Type 0 where
  pub count : length lists ≡ length slots
  pub each : (slot : ℕ) (d : List Event) (e : ClosedSlot) → slot < length slots
      → IsEndOf last_seq (slice_index_or lists slot d) (slice_index_or slots slot e)

-- the entries of all slots together
abbrev pub entries_in : List ClosedSlot → ℕ
entries_in slots = sum_by entries_at_end slots

-- each front of each seat is a prefix of its slot's list
abbrev pub AreSeen : List SeatState → List (List Event) → Type 0
AreSeen seats lists = (seat slot : ℕ) (d : SeatState) (e : List Event)
    → seat < length seats → slot < length lists
    → IsPrefix (front_of (slice_index_or seats seat d) slot) (slice_index_or lists slot e)

-- no two seats have the same number
abbrev pub AreDistinct : List SeatState → Type 0
AreDistinct seats = AllPairs (λ p q. p.number ≢ q.number) seats

-- how many changes all seats made in a slot
abbrev pub counted_in : ℕ → List SeatState → ℕ
counted_in slot seats = sum_by (λ seat. slice_index seat.by_slot slot) seats

-- each list has as many entries as the seats count in its slot
abbrev pub AreCounted : List SeatState → List (List Event) → Type 0
AreCounted seats lists = (slot : ℕ) (d : List Event) → slot < length lists
    → length (slice_index_or lists slot d) ≡ counted_in slot seats

-- there are slot lists with which the slots ended: of each the fronts of all seats are prefixes,
-- and in each happened what the seats count there, and nothing else
pub record IsEnd (last_seq : ℕ) (seats : List SeatState) (slots : List ClosedSlot) : Type 0 where
  pub lists : List (List Event)
  pub ends : AreEnds last_seq lists slots
  pub seen : AreSeen seats lists
  pub counted : AreCounted seats lists

-- what a seat knows, by its place on each board
abbrev pub known_by : SeatState → FrontsState
known_by seat = record { place = seat.number; fronts = seat.fronts }

-- a seat has a count and a front for each slot, and its fronts have as many of its changes as it
-- counts
pub record IsRecorded (slots : ℕ) (seat : SeatState) : Type 0 where
  pub each : length seat.by_slot ≡ slots
  pub fronts : length seat.fronts ≡ slots
  pub known : AreKnown slots seat.number seat.fronts seat.by_slot

-- of some fronts the last slot's was returned, a prefix of what happened there
pub record IsWithout (events : List Event) (old new : FrontsState) : Type 0 where
  pub front : List Event
  pub seen : IsPrefix front events
  pub place : new.place ≡ old.place
  pub fronts : old.fronts ≡ new.fronts ++ front ∷ []

-- the same of each, in their order
pub record AreWithout (events : List Event) (old new : List FrontsState) : Type 0 where
  pub count : length new ≡ length old
  pub each : (k : ℕ) (d : FrontsState) → k < length old
      → IsWithout events (slice_index_or old k d) (slice_index_or new k d)
