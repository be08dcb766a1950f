-- What a call of a slot under its lock leaves, of the slot and of its caller's seat.
use Rattle.std.specs.Prelude.{◌≡◌, ℕ, ℤ, List, length, slice_set, Some, Ok}
use Rattle.mq_arena.specs.Text.{PlainText}
use Rattle.mq_queue.specs.declared.event.Event.{Event}
use Rattle.mq_table.specs.Calls.{makes}
use Rattle.mq_table.specs.Ids.{slot_of}
use Rattle.mq_table.specs.Keys.{entered}
use Rattle.mq_table.specs.Slot.{SlotState, next_id}
use Rattle.mq_calls.specs.declared.results.Got.{Got}
use Rattle.mq_calls.specs.declared.results.Refused.{Refused}
use Rattle.mq_system.specs.Answer.{SlotAnswer, refused_or_memory_in_slot}
use Rattle.mq_system.specs.Seat.{IsCounted, IsNext, SeatState, front_of}
use Rattle.mq_system.specs.Shared.{LockedSlot}

-- a call may begin: its id's slot is locked, and the caller's seat knows all of it
pub record MayBegin (id : ℕ) (held : SlotState PlainText) (seat : SeatState) : Type 0 where
  pub slot_is : slot_of id ≡ held.number
  pub known : front_of seat held.number ≡ held.events

-- a seat has noted a change: it counts once for the seat in the slot, which has learned all of it
pub record HasNoted (old new : SeatState) (slot : ℕ) (events : List Event) : Type 0 where
  pub counted : IsCounted old new slot
  pub learned : new.fronts ≡ slice_set old.fronts slot events

-- a call answers what was decided for it, its seat has noted its change, and no entry was drained
pub record HasChanged {T : Type 0} (decided : SlotAnswer T) (held left : LockedSlot)
    (old new : SeatState) (value : T) : Type 0 where
  pub ok : decided ≡ Ok (value, left.whole)
  pub number : left.whole.number ≡ held.whole.number
  pub kept : left.first ≡ held.first
  pub noted : HasNoted old new held.whole.number left.whole.events

-- a call answers what was decided for it, appended one entry of this seat, and drained none
pub record HasAppended {T : Type 0} (decided : SlotAnswer T) (held left : LockedSlot) (seat : ℕ)
    (value : T) : Type 0 where
  pub ok : decided ≡ Ok (value, left.whole)
  pub number : left.whole.number ≡ held.whole.number
  pub kept : left.first ≡ held.first
  pub next : IsNext seat held.whole.events left.whole.events

-- a call is refused as was decided for it, or for memory, and left all as it was
pub record HasRefused {T : Type 0} (decided : SlotAnswer T) (held left : LockedSlot)
    (old new : SeatState) (r : Refused) : Type 0 where
  pub why : r ≡ refused_or_memory_in_slot held.whole decided
  pub unchanged : left ≡ held
  pub same : new ≡ old

-- msgget made a queue, its key is entered among the keys, and no entry was drained
pub record HasMade (key : ℤ) (moment : ℕ) (held left : LockedSlot)
    (keys_before keys_after : List (ℤ × ℕ)) (old new : SeatState) (got : Got) : Type 0 where
  pub is : got ≡ record { id = next_id held.whole; made = Some (length held.whole.events) }
  pub made : left.whole ≡ makes held.whole key old.number moment
  pub entered_is : keys_after ≡ entered key (next_id held.whole) keys_before
  pub number : left.whole.number ≡ held.whole.number
  pub kept : left.first ≡ held.first
  pub noted : HasNoted old new held.whole.number left.whole.events
