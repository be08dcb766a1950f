-- What msgget finds and makes in a slot, as a seat's front shows it (msgget(2)).
use Rattle.std.specs.Prelude.{◌≡◌, ◌≢◌, ℕ, ℤ, if◌then◌else◌, true, false, List, slice_get, take, None, Some}
use Rattle.mq_queue.specs.Row.{live_key, made_count}
use Rattle.mq_queue.specs.declared.event.Event.{Event}
use Rattle.mq_queue.specs.declared.event.Event.TheVariants.{Made}
use Rattle.mq_table.specs.Ids.{seq_of, slot_of}
use Rattle.mq_table.specs.SlotList.{Live, is_free, standing}
use Rattle.mq_calls.specs.declared.errno.Errno.{Errno}
use Rattle.mq_calls.specs.declared.errno.Errno.TheVariants.{ENOMEM, ENOSPC}
use Rattle.mq_calls.specs.declared.results.Got.{Got}
use Rattle.mq_system.specs.Outcome.{IsStep}
use Rattle.mq_system.specs.Seat.{SeatState, front_of}
use Rattle.mq_system.specs.Seen.{IsDone, Verdict}

-- the queue with this seq is in the slot, and has this key
pub record IsKeyed (seq : ℕ) (key : ℤ) (events : List Event) : Type 0 where
  pub live : standing events seq ≡ Live
  pub named : live_key events ≡ key

-- the events hold the creation of the queue with this seq and this key
pub record HoldsMade (seq : ℕ) (key : ℤ) (events : List Event) : Type 0 where
  pub entry : ℕ
  pub seat : ℕ
  pub moment : ℕ
  pub there : slice_get events entry ≡ Some (Made seat moment key)
  pub before : made_count (take entry events) ≡ seq

-- the queue with this id is in this slot and has this key, and the events hold its creation
pub record IsThere (slot : ℕ) (key : ℤ) (events : List Event) (id : ℕ) : Type 0 where
  pub slot_is : slot_of id ≡ slot
  pub keyed : IsKeyed (seq_of id) key events
  pub made : HoldsMade (seq_of id) key events

-- no queue with this key is in the slot
abbrev pub Lacks : ℤ → List Event → Type 0
Lacks key events = live_key events ≢ key

-- no queue is made in a slot that is not free
abbrev pub make_verdict : ℕ → Verdict
make_verdict last_seq events = if is_free last_seq events then None else Some ENOSPC

-- a queue was made: its seq is the number of those made in its slot before it
pub record IsMade (old new : SeatState) (slot last_seq : ℕ) (key : ℤ) (moment : ℕ) (got : Got)
    : Type 0 where
  pub entry : ℕ
  pub made : got.made ≡ Some entry
  pub done : IsDone old new slot (make_verdict last_seq) entry (Made old.number moment key)
  pub slot_is : slot_of got.id ≡ slot
  pub seq_is : seq_of got.id ≡ made_count (take entry (front_of new slot))
  pub step : IsStep old new slot

-- no queue was made: the slot is not free, or it is and memory ran out
abbrev pub IsNotMade : ℕ → List Event → Errno → Type 0
IsNotMade last_seq events ENOSPC = is_free last_seq events ≡ false
IsNotMade last_seq events ENOMEM = is_free last_seq events ≡ true
IsNotMade last_seq events _ = ⊥
