-- A slot, by its fields.
use Rattle.std.specs.Prelude.{◌≡◌, ℕ, ℤ, pos, ◌+◌, ◌<◌, ◌≤◌, ◌==◌, if◌then◌else◌}
use Rattle.std.specs.Prelude.{Option, None, Some, IfSome, is_some, List, [], length}
use Rattle.std.specs.Option.{option_or}
use Rattle.mq_message.specs.declared.message.Message.{Message}
use Rattle.mq_queue.specs.declared.base.Base.{Base}
use Rattle.mq_queue.specs.declared.event.Event.{Event}
use Rattle.mq_queue.specs.Queue.{Queue}
use Rattle.mq_table.specs.Kept.{KeptSlot, base_now, is_live_kept, made_of}
use Rattle.mq_table.specs.KeptPart.{IsLawfulSlot, WaitsNow}
use Rattle.mq_table.specs.declared.limits.TheConstants.{MAX_PAST, MAX_SEQ, MAX_SLOTS}

-- a slot in which no queue was created
abbrev pub empty_kept : {B : Type 0} → ℕ → KeptSlot B
empty_kept number = record {
  number = number;
  first = 0;
  made = 0;
  key = pos 0;
  base = None;
  past = [];
  last = [];
  messages = [];
}

-- a base, where it is that of some event
abbrev pub some_base : Base → Option Base
some_base base = if base.places == 0 then None else Some base

-- the base of the queue that is there, where some event of its log is drained
abbrev pub live_base : {B : Type 0} → Option (Queue B) → Option Base
live_base None = None
live_base (Some queue) = some_base queue.base

-- the base that a slot has itself: none where the queue that is there has it
abbrev pub own_base : {B : Type 0} → Option (Queue B) → Option Base → Option Base
own_base live base = if is_some (live_base live) then None else base

-- the events that are kept of the log of the queue that is there, if one is
abbrev pub tail_of : {B : Type 0} → Option (Queue B) → List Event
tail_of None = []
tail_of (Some queue) = queue.tail

-- the pending messages of the queue that is there, if one is
abbrev pub messages_of : {B : Type 0} → Option (Queue B) → List (ℕ × Message B)
messages_of None = []
messages_of (Some queue) = queue.messages

-- the slot with these fields: its base is that of the queue in it, where some event of that queue's
-- log is drained
abbrev pub slot_with : {B : Type 0} → ℕ → ℕ → ℕ → ℤ → Option Base → List Event → Option (Queue B)
    → KeptSlot B
slot_with number first made key base past live = record {
  number = number;
  first = first;
  made = made;
  key = key;
  base = option_or (live_base live) base;
  past = past;
  last = tail_of live;
  messages = messages_of live;
}

-- the slot has a number; the creations are counted, and not too many for ids; not too many entries
-- are before the log of the queue in it; the slot keeps its part of some slot list; that queue is
-- the list's; and no base is there twice
pub record IsSlot {B : Type 0} (bytes : B → List ℕ) (made : ℕ) (live : Option (Queue B))
    (base : Option Base) (s : KeptSlot B) : Type 0 where
  pub numbered : s.number < MAX_SLOTS
  pub counted : made ≡ made_of s
  pub few : made ≤ MAX_SEQ + 1
  pub short : s.first + length s.past ≤ MAX_PAST
  pub lawful : IsLawfulSlot MAX_SEQ s
  pub there : is_some live ≡ is_live_kept s
  pub based : IfSome live (λ queue. queue.base ≡ base_now s)
  pub last : s.last ≡ tail_of live
  pub messages : s.messages ≡ messages_of live
  pub waits : WaitsNow bytes s
  pub own : base ≡ own_base live s.base
