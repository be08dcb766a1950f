-- What a call of a queue did, as its caller's seat shows it (msgop(2), msgctl(2)).
use Rattle.std.specs.Prelude.{◌≡◌, ◌+◌, ◌<◌, ◌≤◌, ℕ, ℤ, Bool, false, length, take, Option}
use Rattle.mq_arena.specs.Text.{PlainText}
use Rattle.mq_queue.specs.Queue.{rest_of}
use Rattle.mq_queue.specs.Row.{last_log}
use Rattle.mq_queue.specs.declared.event.Event.TheVariants.{Changed, Removed, Sent}
use Rattle.mq_queue.specs.declared.limits.TheConstants.{MSGMNB}
use Rattle.mq_message.specs.declared.selection.Selection.{Selection}
use Rattle.mq_table.specs.Ids.{seq_of, slot_of}
use Rattle.mq_table.specs.Slot.{SlotState}
use Rattle.mq_table.specs.SlotList.{IsSlotList}
use Rattle.mq_calls.specs.declared.errno.Errno.{Errno}
use Rattle.mq_calls.specs.declared.results.Delivered.{Delivered}
use Rattle.mq_calls.specs.declared.results.Refused.{Refused}
use Rattle.mq_calls.specs.declared.results.Removal.{Removal}
use Rattle.mq_system.specs.Pledge.{MeetsPledge, MeetsWhole, Pledged}
use Rattle.mq_system.specs.Refusals.{MayReceive, MayRemove, MaySend, MaySet, Refuses, never_sent, out_of_slots}
use Rattle.mq_system.specs.Seat.{IsCounted, IsLater, IsSame, SeatState, front_of}
use Rattle.mq_system.specs.Seen.{IsDecided, IsDone, IsReceipt, Verdict, receive_verdict, remove_verdict, send_verdict, set_verdict}

-- a call only read: it changed nothing, and its seat may know more now
pub record IsLook (old new : SeatState) : Type 0 where
  pub same : IsSame old new
  pub later : IsLater old new

-- a call changed a slot: it counts once for its seat there, and no front fell
pub record IsStep (old new : SeatState) (slot : ℕ) : Type 0 where
  pub counted : IsCounted old new slot
  pub later : IsLater old new

-- a call is under its slot's lock: its seat has made no change yet, and knows all of the slot
pub record IsUnderLock (old new : SeatState) (slot : ℕ) (held : SlotState PlainText) : Type 0 where
  pub look : IsLook old new
  pub low : slot < length new.fronts
  pub number : held.number ≡ slot
  pub known : front_of new slot ≡ held.events

-- a call of a queue was refused: by what was asked alone, or by what happened in its slot
pub record IsTurnedAway (early : Bool) (may : Errno → Type 0) (slot : ℕ) (verdict : Verdict)
    (old new : SeatState) (r : Refused) : Type 0 where
  pub look : IsLook old new
  pub refuses : Refuses early may r
  pub decided : IsDecided old new slot verdict r

-- the same where the errno alone is given
pub record IsRefusal (early : Bool) (may : Errno → Type 0) (slot : ℕ) (verdict : Verdict)
    (old new : SeatState) (errno : Errno) : Type 0 where
  pub entry : Option ℕ
  pub turned : IsTurnedAway early may slot verdict old new (record { errno = errno; entry = entry })

-- msgsnd took in a text of n bytes
pub record IsSent (slots id : ℕ) (mtype : ℤ) (tag n moment : ℕ) (old new : SeatState) (entry : ℕ)
    : Type 0 where
  pub early : never_sent slots id mtype ≡ false
  pub step : IsStep old new (slot_of id)
  pub done : IsDone old new (slot_of id) (send_verdict (seq_of id) mtype n) entry
      (Sent old.number moment tag mtype n)

-- msgsnd refused a text of n bytes
abbrev pub IsNotSent : ℕ → ℕ → ℤ → ℕ → Bool → SeatState → SeatState → Refused → Type 0
IsNotSent slots id mtype n nowait old new r =
    IsTurnedAway (never_sent slots id mtype) (MaySend nowait) (slot_of id)
    (send_verdict (seq_of id) mtype n) old new r

-- msgrcv returned a message that meets the pledge
pub record IsReceived (kept : Pledged) (slots id size : ℕ) (selection : Selection) (noerror : Bool)
    (moment : ℕ) (old new : SeatState) (d : Delivered PlainText) : Type 0 where
  pub early : out_of_slots slots id ≡ false
  pub step : IsStep old new (slot_of id)
  pub receipt : IsReceipt old new (slot_of id) (seq_of id) size selection noerror moment d
  pub pledge : MeetsPledge kept size d
  pub whole : noerror ≡ false → MeetsWhole kept d

-- msgrcv was refused
abbrev pub IsNotReceived : ℕ → ℕ → ℕ → Selection → Bool → Bool → SeatState → SeatState → Refused
    → Type 0
IsNotReceived slots id size selection noerror nowait old new r =
    IsTurnedAway (out_of_slots slots id) (MayReceive nowait noerror) (slot_of id)
    (receive_verdict (seq_of id) size selection noerror) old new r

-- IPC_SET set the quota
pub record IsSet (slots id qbytes moment : ℕ) (old new : SeatState) (entry : ℕ) : Type 0 where
  pub early : out_of_slots slots id ≡ false
  pub limit : qbytes ≤ MSGMNB
  pub step : IsStep old new (slot_of id)
  pub done : IsDone old new (slot_of id) (set_verdict (seq_of id) qbytes) entry
      (Changed old.number moment qbytes)

-- IPC_SET was refused
abbrev pub IsNotSet : ℕ → ℕ → ℕ → SeatState → SeatState → Refused → Type 0
IsNotSet slots id qbytes old new r =
    IsTurnedAway (out_of_slots slots id) (MaySet qbytes) (slot_of id)
    (set_verdict (seq_of id) qbytes) old new r

-- IPC_RMID removed the queue, and returns what is kept of its log; the front up to its event is a
-- slot list
pub record IsRemoved (slots last_seq id moment : ℕ) (old new : SeatState) (r : Removal)
    : Type 0 where
  pub early : out_of_slots slots id ≡ false
  pub step : IsStep old new (slot_of id)
  pub done : IsDone old new (slot_of id) (remove_verdict (seq_of id)) r.entry
      (Removed old.number moment)
  pub log : r.log
      ≡ rest_of r.log.base.places (last_log (take (r.entry + 1) (front_of new (slot_of id))))
  pub lawful : IsSlotList last_seq (take (r.entry + 1) (front_of new (slot_of id)))

-- IPC_RMID was refused
abbrev pub IsNotRemoved : ℕ → ℕ → SeatState → SeatState → Refused → Type 0
IsNotRemoved slots id old new r =
    IsTurnedAway (out_of_slots slots id) MayRemove (slot_of id)
    (remove_verdict (seq_of id)) old new r
