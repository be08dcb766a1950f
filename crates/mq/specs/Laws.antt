-- What follows, for a seat's later calls, from what it knows of a slot.
use Rattle.std.specs.Prelude.{◌≡◌, ℕ, ℤ, Bool, false, List, ◌++◌, slice_get, Some, Err}
use Rattle.mq_queue.specs.declared.event.Event.{Event}
use Rattle.mq_message.specs.declared.selection.Selection.{Selection}
use Rattle.mq_table.specs.Ids.{seq_of, slot_of}
use Rattle.mq_table.specs.SlotList.{IsSlotList, Removed, standing}
use Rattle.mq_calls.specs.declared.errno.Errno.{Errno}
use Rattle.mq_calls.specs.declared.errno.Errno.TheVariants.{EIDRM}
use Rattle.mq_system.specs.Refusals.{out_of_slots}
use Rattle.mq_system.specs.Seat.{IsLater, SeatState, front_of}
use Rattle.mq_system.specs.Seen.{IsDone, IsRefused, Verdict, receive_verdict, remove_verdict, send_verdict, set_verdict}
use Rattle.mq_system.specs.Shown.{stat_of}

-- a change that a seat made stays at its entry in all that the seat knows later
abbrev pub StaysWritten : Type 0
StaysWritten = (old now later : SeatState) (slot : ℕ) (verdict : Verdict)
    (entry : ℕ) (event : Event)
    → IsDone old now slot verdict entry event → IsLater now later
    → slice_get (front_of later slot) entry ≡ Some event

-- the first events of a slot list are a slot list: so is what a seat knows of a slot
abbrev pub BeginsLawfully : Type 0
BeginsLawfully = (last_seq : ℕ) (events more : List Event)
    → IsSlotList last_seq (events ++ more) → IsSlotList last_seq events

-- a call of the id that a verdict is on makes no change, and where it is decided by the slot's
-- events it is refused with EIDRM
pub record FindsRemoved (old new : SeatState) (slot : ℕ) (verdict : Verdict) : Type 0 where
  pub never_done : (entry : ℕ) (event : Event) → ¬ IsDone old new slot verdict entry event
  pub refused : (entry : ℕ) (errno : Errno) → IsRefused old new slot verdict entry errno
      → errno ≡ EIDRM

-- a seat that knows that an id's queue was removed, in a slot whose list continues as it may after
-- what the seat knows once the call is done, which is known of each list at the end
pub record KnowsRemoved (last_seq : ℕ) (old new : SeatState) (slot seq : ℕ) : Type 0 where
  pub later : IsLater old new
  pub removed : standing (front_of old slot) seq ≡ Removed
  pub rest : List Event
  pub lawful : IsSlotList last_seq (front_of new slot ++ rest)

-- such a seat gets EIDRM from each call of that id from then on
abbrev pub StaysRefused : Type 0
StaysRefused = (last_seq : ℕ) (old new : SeatState) (slot seq : ℕ)
    → KnowsRemoved last_seq old new slot seq
    → ((mtype : ℤ) (n : ℕ) → FindsRemoved old new slot (send_verdict seq mtype n))
    × ((size : ℕ) (selection : Selection) (noerror : Bool)
    → FindsRemoved old new slot (receive_verdict seq size selection noerror))
    × ((qbytes : ℕ) → FindsRemoved old new slot (set_verdict seq qbytes))
    × FindsRemoved old new slot (remove_verdict seq)
    × ((slots id : ℕ) → slot_of id ≡ slot → seq_of id ≡ seq → out_of_slots slots id ≡ false
    → stat_of slots (front_of new slot) id ≡ Err EIDRM)
