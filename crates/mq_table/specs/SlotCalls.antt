-- How the calls of a slot end: what they return, and the slot that they leave (msgget(2), msgop(2),
-- msgctl(2)).
use Rattle.std.specs.Prelude.{◌≡◌, ℕ, ℤ, Bool, Ok, List}
use Rattle.mq_message.specs.declared.message.Message.{Message}
use Rattle.mq_message.specs.declared.selection.Selection.{Selection}
use Rattle.mq_queue.specs.declared.received.Received.{Received}
use Rattle.mq_queue.specs.Answer.{received_header}
use Rattle.mq_queue.specs.Queue.{CutLog}
use Rattle.mq_queue.specs.QueueCalls.{IsWhatWaited}
use Rattle.mq_table.specs.Kept.{KeptSlot, entries_of}
use Rattle.mq_table.specs.KeptCalls.{kept_makes, kept_receives, kept_removes, log_removed}
use Rattle.mq_table.specs.KeptShown.{last_id_now, next_id_now}
use Rattle.mq_table.specs.Keys.{entered, forget}

-- a message of the slot's queue was received: the slot has this event more, and the message is the
-- one that was pending
pub record IsTakenIn {B : Type 0} (bytes : B → List ℕ) (keeps : B → B → Type 0) (size : ℕ)
    (selection : Selection) (noerror : Bool) (seat moment : ℕ) (old new : KeptSlot B)
    (r : Received B) : Type 0 where
  pub ok : kept_receives old size selection noerror seat moment ≡ Ok (received_header r, new)
  pub entry : r.entry ≡ entries_of old
  pub waited : IsWhatWaited bytes keeps size old.messages r

-- a queue was created in the slot, and its key, unless it is 0, is in the table
pub record IsMadeUnder {B : Type 0} (key : ℤ) (seat moment : ℕ) (old new : KeptSlot B)
    (before after : List (ℤ × ℕ)) (answer : ℕ) : Type 0 where
  pub id : answer ≡ next_id_now old
  pub made : new ≡ kept_makes old key seat moment
  pub entered : after ≡ entered key answer before

-- the slot's queue was removed: its log and its pending messages are returned
pub record IsTakenOut {B : Type 0} (seat moment : ℕ) (old new : KeptSlot B) (left : CutLog)
    (waiting : List (ℕ × Message B)) : Type 0 where
  pub removed : new ≡ kept_removes old seat moment
  pub log : left ≡ log_removed old seat moment
  pub messages : waiting ≡ old.messages

-- so it was, and its key is no longer in the table
pub record IsRemovedUnder {B : Type 0} (seat moment : ℕ) (old new : KeptSlot B)
    (before after : List (ℤ × ℕ)) (left : CutLog) (waiting : List (ℕ × Message B)) : Type 0 where
  pub taken : IsTakenOut seat moment old new left waiting
  pub forgotten : after ≡ forget (last_id_now old) before
