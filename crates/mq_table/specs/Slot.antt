-- A slot.
use Rattle.std.specs.Prelude.{◌≡◌, ℕ, ◌-◌, true, List, [], All}
use Rattle.mq_message.specs.declared.message.Message.{Message}
use Rattle.mq_message.specs.Waiting.{headers_of}
use Rattle.mq_queue.specs.declared.event.Event.{Event}
use Rattle.mq_queue.specs.Lawful.{Lawful}
use Rattle.mq_queue.specs.Log.{ends_with_removed}
use Rattle.mq_queue.specs.Row.{made_count}
use Rattle.mq_queue.specs.Waiting.{waiting}
use Rattle.mq_table.specs.Ids.{id_of}
use Rattle.mq_table.specs.SlotList.{joined, live_log}

-- a slot: its number, all that happened in it, and the pending messages of the queue that is in it
-- now, each with the place of its send in that queue's log
pub record SlotState (B : Type 0) : Type 0 where
  pub number : ℕ
  pub events : List Event
  pub messages : List (ℕ × Message B)

-- a slot in which no queue was created
abbrev pub empty_slot : {B : Type 0} → ℕ → SlotState B
empty_slot number = record { number = number; events = []; messages = [] }

-- the id of the slot's next queue
abbrev pub next_id : {B : Type 0} → SlotState B → ℕ
next_id s = id_of s.number (made_count s.events)

-- the id of the queue that was created last
abbrev pub last_id : {B : Type 0} → SlotState B → ℕ
last_id s = id_of s.number (made_count s.events - 1)

-- the messages are those that the log of the queue in the slot leaves pending; none is where no
-- queue is
abbrev pub Waits : {B : Type 0} → (B → List ℕ) → SlotState B → Type 0
Waits bytes s = headers_of bytes s.messages ≡ waiting (live_log s.events)

-- the log of a queue that was removed
pub record IsEndedLog (log : List Event) : Type 0 where
  pub lawful : Lawful log
  pub removed : ends_with_removed log ≡ true

-- the events are the logs of queues that were all removed, one after another
pub record ArePast (events : List Event) : Type 0 where
  pub logs : List (List Event)
  pub whole : events ≡ joined logs
  pub ended : All IsEndedLog logs
