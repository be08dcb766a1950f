-- What a seat's front decides of its calls: after which events of a slot a change was made, and why
-- a call was refused.
use Rattle.std.specs.Prelude.{◌≡◌, ℕ, ℤ, ◌≤◌, Bool, List, length, take, slice_get, Option, None, Some, MatchOption, unwrap_or, Ok}
use Rattle.mq_arena.specs.Text.{PlainText}
use Rattle.mq_message.specs.declared.header.Header.{Header}
use Rattle.mq_message.specs.declared.selection.Selection.{Selection}
use Rattle.mq_queue.specs.Answer.{receive_answer, receive_refusal, send_refusal, set_refusal}
use Rattle.mq_queue.specs.Room.{quota}
use Rattle.mq_queue.specs.Row.{last_log}
use Rattle.mq_queue.specs.Waiting.{waiting}
use Rattle.mq_queue.specs.declared.error.QueueError.{QueueError}
use Rattle.mq_queue.specs.declared.event.Event.{Event}
use Rattle.mq_queue.specs.declared.event.Event.TheVariants.{Received}
use Rattle.mq_table.specs.SlotList.{Standing, Never, Live, Removed, standing}
use Rattle.mq_calls.specs.Look.{errno_of}
use Rattle.mq_calls.specs.declared.errno.Errno.{Errno}
use Rattle.mq_calls.specs.declared.errno.Errno.TheVariants.{EIDRM, EINVAL, ENOMEM}
use Rattle.mq_calls.specs.declared.results.Delivered.{Delivered}
use Rattle.mq_calls.specs.declared.results.Refused.{Refused}
use Rattle.mq_system.specs.Seat.{SeatState, front_of}

-- why a call is refused after some events of its slot, or None where at most memory can run out
abbrev pub Verdict : Type 0
Verdict = List Event → Option Errno

-- where the id's queue is there, what its queue refuses; else the id is refused
abbrev pub unless_refused : Standing → Option QueueError → Option Errno
unless_refused Never refusal = Some EINVAL
unless_refused Removed refusal = Some EIDRM
unless_refused Live None = None
unless_refused Live (Some refusal) = Some (errno_of refusal)

-- msgsnd of a text of n bytes (msgop(2), msgsnd)
abbrev pub send_verdict : ℕ → ℤ → ℕ → Verdict
send_verdict seq mtype n events =
    let log = last_log events in
    unless_refused (standing events seq) (send_refusal (waiting log) (quota log) mtype n)

-- msgrcv (msgop(2), msgrcv)
abbrev pub receive_verdict : ℕ → ℕ → Selection → Bool → Verdict
receive_verdict seq size selection noerror events =
    unless_refused (standing events seq)
    (receive_refusal (waiting (last_log events)) size selection noerror)

-- IPC_SET (msgctl(2), IPC_SET)
abbrev pub set_verdict : ℕ → ℕ → Verdict
set_verdict seq qbytes events = unless_refused (standing events seq) (set_refusal qbytes)

-- IPC_RMID (msgctl(2), IPC_RMID)
abbrev pub remove_verdict : ℕ → Verdict
remove_verdict seq events = unless_refused (standing events seq) None

-- a change was made: the slot's event at its entry, which the seat did not know before, and the
-- events before it do not refuse it
pub record IsDone (old new : SeatState) (slot : ℕ) (verdict : Verdict) (entry : ℕ) (event : Event)
    : Type 0 where
  pub late : length (front_of old slot) ≤ entry
  pub there : slice_get (front_of new slot) entry ≡ Some event
  pub allowed : verdict (take entry (front_of new slot)) ≡ None

-- a call was refused after so many events of the slot, which are no fewer than the seat knew before
-- and all that it knows now: for what they refuse, or else for memory
pub record IsRefused (old new : SeatState) (slot : ℕ) (verdict : Verdict) (entry : ℕ)
    (errno : Errno) : Type 0 where
  pub late : length (front_of old slot) ≤ entry
  pub known : entry ≡ length (front_of new slot)
  pub why : errno ≡ unwrap_or (verdict (take entry (front_of new slot))) ENOMEM

-- the same of a refusal, where it was decided by the slot's events
abbrev pub IsDecided : SeatState → SeatState → ℕ → Verdict → Refused → Type 0
IsDecided old new slot verdict r =
    MatchOption r.entry (Unit {0}) (λ entry. IsRefused old new slot verdict entry r.errno)

-- a receipt: the slot's event at its entry is that of the message that the selection picks of those
-- that are pending after the events before it, and that message is returned
pub record IsReceipt (old new : SeatState) (slot seq size : ℕ) (selection : Selection)
    (noerror : Bool) (moment : ℕ) (d : Delivered PlainText) : Type 0 where
  pub message : Header
  pub done : IsDone old new slot (receive_verdict seq size selection noerror) d.entry
      (Received old.number noerror moment message.place selection size)
  pub named :
      receive_answer (waiting (last_log (take d.entry (front_of new slot)))) size selection noerror
      ≡ Ok message
  pub mtype : d.mtype ≡ message.mtype
  pub sender : d.sender ≡ message.seat
  pub tag : d.tag ≡ message.tag
  pub long : d.length ≡ message.length
