-- What the locks of a system protect.
use Rattle.std.specs.Prelude.{◌≡◌, ℕ, ℤ, ◌+◌, ◌-◌, ◌<◌, ◌≤◌, Bool, true, if◌then◌else◌, nat_le}
use Rattle.std.specs.Prelude.{List, [], ◌++◌, All, drop, length, map}
use Rattle.mq_arena.specs.Text.{PlainText}
use Rattle.mq_queue.specs.Row.{is_live}
use Rattle.mq_queue.specs.declared.event.Event.{Event}
use Rattle.mq_table.specs.Ids.{slot_of}
use Rattle.mq_table.specs.Kept.{KeptSlot, kept_of}
use Rattle.mq_table.specs.KeptPart.{IsKeptPart, whole}
use Rattle.mq_table.specs.Slot.{SlotState, empty_slot}
use Rattle.mq_table.specs.SlotList.{IsSlotList}
use Rattle.mq_board.specs.Writers.{HasOnePending, WriterState}
use Rattle.mq_board.specs.declared.posting.Posting.{Posting}
use Rattle.mq_system.specs.Pledge.{Pledged, IsPledged}
use Rattle.mq_system.specs.Seat.{seat_of}

-- what is published on the board of this number is the list of the slot of the same number, which
-- keeps a part of it, and nothing is pending
pub record IsPublished {B : Type 0} (board : ℕ) (events : List Event) (pending : List Posting)
    (slot : KeptSlot B) : Type 0 where
  pub numbered : board ≡ slot.number
  pub kept : IsKeptPart events slot
  pub none : pending ≡ []

-- a slot under its lock: the whole slot, and how many entries of its list were drained
pub record LockedSlot : Type 0 where
  pub whole : SlotState PlainText
  pub first : ℕ

-- the slot under its lock, of which the list is known
abbrev pub locked : List Event → KeptSlot PlainText → LockedSlot
locked events slot = record { whole = whole events slot; first = slot.first }

-- one in which no queue was made
abbrev pub empty_locked : ℕ → LockedSlot
empty_locked number = record { whole = empty_slot number; first = 0 }

-- the slot once its list was drained to its end
abbrev pub cut_at_end : LockedSlot → LockedSlot
cut_at_end slot = record slot { first = length slot.whole.events }

-- whether at least so many entries are kept of the list
abbrev pub keeps_from : ℕ → LockedSlot → Bool
keeps_from entries slot = nat_le entries (length slot.whole.events - slot.first)

-- the slot, once its list was drained to its end if that was to be
abbrev pub cut_where : Bool → LockedSlot → LockedSlot
cut_where is slot = if is then cut_at_end slot else slot

-- a slot under its lock, with its board: it is one of the system's, its list has no more queues
-- than ids allow, the pledge holds of each pending message, and its part of the ledger of entries
-- has as much as its list has entries
pub record IsShared (kept : Pledged) (slots last_seq board : ℕ) (events : List Event)
    (pending : List Posting) (slot : KeptSlot PlainText) (parts amount : ℕ) : Type 0 where
  pub published : IsPublished board events pending slot
  pub within : slot.number < slots
  pub lawful : IsSlotList last_seq events
  pub pledged : All (λ m. IsPledged kept m.1) slot.messages
  pub part : parts ≡ 1
  pub noted : amount ≡ length events

-- the published list, once what is pending is published
abbrev pub with_pending : List Event → List Posting → List Event
with_pending events pending = events ++ map (λ p. p.event) pending

-- a change of a slot is to be published, which this seat made: the slot is as it is to be once it
-- is published, and its entry is there
pub record IsDue (kept : Pledged) (slots last_seq seat board : ℕ) (events : List Event)
    (pending : List Posting) (slot : KeptSlot PlainText) (parts amount : ℕ) : Type 0 where
  pub ready : HasOnePending events pending
  pub own : seat_of ready.next.event ≡ seat
  pub shared : IsShared kept slots last_seq board (with_pending events pending) [] slot parts
      (amount + 1)

-- the entries of a slot's list beyond its first so many, of which the drained ones are some
abbrev pub unpublished : {B : Type 0} → ℕ → KeptSlot B → List Event
unpublished count slot = drop (count - slot.first) (kept_of slot)

-- the whole list of a slot, of which these entries are published
abbrev pub all_events : {B : Type 0} → List Event → KeptSlot B → List Event
all_events published slot = published ++ unpublished (length published) slot

-- the slot under its lock, of which these entries are published
abbrev pub locked_all : List Event → KeptSlot PlainText → LockedSlot
locked_all published slot = locked (all_events published slot) slot

-- a slot's board lacks the last entries of its list, which this seat made; a queue is there after
-- them. The slot is as it is to be once they are published and the seat has noted them
pub record IsBehind (kept : Pledged) (slots last_seq seat : ℕ) (writer : WriterState)
    (slot : KeptSlot PlainText) (parts amount : ℕ) : Type 0 where
  pub shared : IsShared kept slots last_seq writer.board (all_events writer.events slot)
      writer.pending slot parts (amount + length (unpublished (length writer.events) slot))
  pub first : slot.first ≤ length writer.events
  pub own : All (λ e. seat_of e ≡ seat) (unpublished (length writer.events) slot)
  pub live : 0 < length (unpublished (length writer.events) slot)
      → is_live (all_events writer.events slot) ≡ true

-- the key table under its lock: each id's slot is one of the system's
abbrev pub AreWithin : ℕ → List (ℤ × ℕ) → Type 0
AreWithin slots keys = All (λ p. slot_of p.1 < slots) keys
