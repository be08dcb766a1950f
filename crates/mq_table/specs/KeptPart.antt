-- What a slot keeps is a part of its whole list.
use Rattle.std.specs.Prelude.{◌≡◌, ℕ, if◌then◌else◌, Option, Some, None, List, ◌++◌, length}
use Rattle.mq_message.specs.Waiting.{headers_of}
use Rattle.mq_queue.specs.declared.base.Base.{Base}
use Rattle.mq_queue.specs.declared.event.Event.{Event}
use Rattle.mq_queue.specs.Base.{base_of}
use Rattle.mq_queue.specs.LawfulFrom.{IsOpenLog}
use Rattle.mq_queue.specs.Row.{is_live, last_log, live_key, made_count}
use Rattle.mq_table.specs.Kept.{KeptSlot, base_now, kept_of, waiting_now}
use Rattle.mq_table.specs.Slot.{SlotState}
use Rattle.mq_table.specs.SlotList.{IsSlotList, live_log}

-- the base of the queue that these entries of a slot leave in it, or none where they leave none
abbrev pub base_at : List Event → Option Base
base_at entries = if is_live entries then Some (base_of (last_log entries)) else None

-- the slot keeps this list from `first` on. The entries before it are drained, and the slot's base
-- is that of the queue that they leave. The log of the queue that is there now begins with its
-- drained events, whose base is that queue's, and continues with the last part; the key is that
-- queue's
pub record IsKeptPart {B : Type 0} (list : List Event) (s : KeptSlot B) : Type 0 where
  pub gone : List Event
  pub before : List Event
  pub whole : list ≡ gone ++ kept_of s
  pub first : s.first ≡ length gone
  pub made : s.made ≡ made_count gone
  pub base : s.base ≡ base_at gone
  pub log : live_log list ≡ before ++ s.last
  pub opened : IsOpenLog before
  pub based : base_now s ≡ base_of before
  pub keyed : s.key ≡ live_key list

-- the whole slot, of which the list is known
abbrev pub whole : {B : Type 0} → List Event → KeptSlot B → SlotState B
whole list s = record { number = s.number; events = list; messages = s.messages }

-- there is a slot list of which this is what the slot keeps
pub record IsLawfulSlot {B : Type 0} (last_seq : ℕ) (s : KeptSlot B) : Type 0 where
  pub list : List Event
  pub part : IsKeptPart list s
  pub lawful : IsSlotList last_seq list

-- the messages are those that the kept part leaves pending; none is where no queue is
abbrev pub WaitsNow : {B : Type 0} → (B → List ℕ) → KeptSlot B → Type 0
WaitsNow bytes s = headers_of bytes s.messages ≡ waiting_now s
