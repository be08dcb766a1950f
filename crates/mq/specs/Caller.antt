-- What a caller of bytes knows: of them, of its seat, and of why a call is refused.
use Rattle.std.specs.Prelude.{◌≡◌, ◌⊎◌, ℕ, ℤ, ◌<◌, ◌≤◌, ◌^◌, ◌&&◌, ◌++◌, Bool, false, true, List, length}
use Rattle.std.specs.Prelude.{None, Option, int_lt, min, nat_le, nat_lt, pos}
use Rattle.mq_arena.specs.Text.{PlainText, order_for}
use Rattle.mq_arena.specs.declared.order.TheConstants.{INLINE_LEN}
use Rattle.mq_message.specs.declared.selection.Selection.{Selection}
use Rattle.mq_message.specs.declared.selection.Selection.TheVariants.{Any, Exact, Except, UpTo}
use Rattle.mq_queue.specs.declared.limits.TheConstants.{MSGMAX}
use Rattle.mq_table.specs.Ids.{seq_of, slot_of}
use Rattle.mq_calls.specs.declared.errno.Errno.{Errno}
use Rattle.mq_calls.specs.declared.errno.Errno.TheVariants.{E2BIG, EINVAL, ENOMEM}
use Rattle.mq_calls.specs.declared.results.Delivered.{Delivered}
use Rattle.mq_calls.specs.declared.results.GetFlags.{GetFlags}
use Rattle.mq_system.specs.Outcome.{IsLook, IsReceived, IsRefusal}
use Rattle.mq_system.specs.Pledge.{Pledged}
use Rattle.mq_system.specs.Refusals.{MayNotDraft, MayReceive, MaySend, never_sent, out_of_slots}
use Rattle.mq_system.specs.Seat.{SeatState}
use Rattle.mq_system.specs.Seen.{Verdict, receive_verdict, send_verdict}
use Rattle.mq_system.specs.Get.{IsGot}
use Rattle.mq.specs.Bytes.{with_text}

-- what was received, with these bytes for its text
abbrev pub with_bytes : {T : Type 0} → Delivered T → List ℕ → Delivered PlainText
with_bytes d bytes = with_text d (record { bytes = bytes; block = None })

-- the flags with which a queue is created where there is none
abbrev pub creating : GetFlags
creating = record { create = true; exclusive = false }

-- an id is that of a queue that was found, or that was created where none was found
pub record IsGotId (slots last_seq : ℕ) (key : ℤ) (moment : ℕ) (old new : SeatState) (id : ℕ)
    : Type 0 where
  pub made : Option ℕ
  pub got : IsGot slots last_seq key creating moment old new (record { id = id; made = made })
  pub within : out_of_slots slots id ≡ false

-- a call was refused: the queues were not asked, or they refused it
pub record IsTurnedBack (unasked : Errno → Type 0) (early : Bool) (may : Errno → Type 0) (slot : ℕ)
    (verdict : Verdict) (old new : SeatState) (errno : Errno) : Type 0 where
  pub allowed : may errno
  pub look : IsLook old new
  pub why : unasked errno ⊎ IsRefusal early may slot verdict old new errno

-- the queues are always asked
abbrev pub IsAsked : Errno → Type 0
IsAsked errno = ⊥

-- a call that ended before the system was asked: the seat has learned nothing
abbrev pub IsUnasked : SeatState → SeatState → Type 0
IsUnasked old new = new ≡ old

-- no text was drafted of so many bytes, and the system was not asked
abbrev pub IsNotDrafted : ℕ → SeatState → SeatState → Errno → Type 0
IsNotDrafted n old new errno = MayNotDraft n errno × IsUnasked old new

-- why a draft that waits found no pages or no memory: its patience ends, or the arena is too small,
-- or it needs memory
abbrev pub MayWaitInVain : Bool → ℕ → ℕ → Type 0
MayWaitInVain ends height n = (ends ≡ true) ⊎ (height < order_for n) ⊎ (INLINE_LEN < n)

-- no text was drafted of so many bytes, though the draft waited for pages
abbrev pub IsNotDraftedWithin : Bool → ℕ → ℕ → SeatState → SeatState → Errno → Type 0
IsNotDraftedWithin ends height n old new errno =
    IsNotDrafted n old new errno × (errno ≡ ENOMEM → MayWaitInVain ends height n)

-- bytes were not sent: no text was drafted, or it was refused
abbrev pub IsNotSentFrom : (Errno → Type 0) → ℕ → ℕ → ℤ → ℕ → Bool → SeatState → SeatState → Errno
    → Type 0
IsNotSentFrom undrafted slots id mtype n nowait old new errno =
    IsTurnedBack undrafted (never_sent slots id mtype) (MaySend nowait) (slot_of id)
    (send_verdict (seq_of id) mtype n) old new errno

-- bytes were received, no more than there was room for
pub record IsReceivedInto {T : Type 0} (kept : Pledged) (slots id size : ℕ) (selection : Selection)
    (noerror : Bool) (moment : ℕ) (old new : SeatState) (d : Delivered T) (bytes : List ℕ)
    : Type 0 where
  pub fits : length bytes ≤ size
  pub pledge : noerror ≡ false → kept d.sender d.tag d.mtype bytes
  pub received : IsReceived kept slots id size selection noerror moment old new (with_bytes d bytes)

-- a selection of types that a message can have (msgop(2))
abbrev pub is_selectable : Selection → Bool
is_selectable Any = true
is_selectable (Exact mtype) = int_lt (pos 0) mtype
is_selectable (Except mtype) = int_lt (pos 0) mtype
is_selectable (UpTo bound) = nat_lt 0 bound && nat_le bound (2 ^ 63)

-- a call was refused for its selection alone
abbrev pub IsUnselectable : Selection → Errno → Type 0
IsUnselectable selection errno = (errno ≡ EINVAL) × (is_selectable selection ≡ false)

-- for how many bytes a call that may return so many has room: for all where a longer text is
-- truncated
pub record IsRoom (most : ℕ) (noerror : Bool) (room : ℕ) : Type 0 where
  pub within : room ≤ most
  pub cut : noerror ≡ true → room ≡ min most MSGMAX

-- the bytes of a message were received, for which there was room
pub record IsReceivedOf {T : Type 0} (kept : Pledged) (slots id most : ℕ) (selection : Selection)
    (noerror : Bool) (moment : ℕ) (old new : SeatState) (d : Delivered T) (bytes : List ℕ)
    : Type 0 where
  pub room : ℕ
  pub is_room : IsRoom most noerror room
  pub received : IsReceivedInto kept slots id room selection noerror moment old new d bytes

-- the system was not asked yet, or refused a text that was longer than the room for it
abbrev pub IsTooLong : ℕ → ℕ → ℕ → Selection → Bool → Bool → SeatState → SeatState → Type 0
IsTooLong slots id most selection noerror nowait old new =
    IsUnasked old new ⊎ ((room : ℕ) × (room < most) × IsRefusal (out_of_slots slots id)
    (MayReceive nowait noerror) (slot_of id) (receive_verdict (seq_of id) room selection noerror)
    old new E2BIG)

-- there was no memory for more room
abbrev pub HasNoRoom : ℕ → ℕ → ℕ → Selection → Bool → Bool → SeatState → SeatState → Errno → Type 0
HasNoRoom slots id most selection noerror nowait old new errno =
    (errno ≡ ENOMEM) × (0 < most) × IsTooLong slots id most selection noerror nowait old new

-- bytes were not received: for the selection, out of memory, or the call was refused; for a text's
-- length only where it is over the most that may be returned
pub record IsNotReceivedFrom (slots id most : ℕ) (selection : Selection) (noerror nowait : Bool)
    (old new : SeatState) (errno : Errno) : Type 0 where
  pub room : ℕ
  pub is_room : IsRoom most noerror room
  pub all : errno ≡ E2BIG → room ≡ most
  pub turned : IsTurnedBack (λ e. (IsUnselectable selection e × IsUnasked old new)
      ⊎ HasNoRoom slots id most selection noerror nowait old new e)
      (out_of_slots slots id) (MayReceive nowait noerror) (slot_of id)
      (receive_verdict (seq_of id) room selection noerror) old new errno

-- bytes of which a fact holds stand behind others now
abbrev pub IsAppended : List ℕ → List ℕ → (List ℕ → Type 0) → Type 0
IsAppended old new fact = (bytes : List ℕ) × (new ≡ old ++ bytes) × fact bytes
