-- What the calls of a slot return and leave, by the part that it keeps (msgget(2), msgop(2),
-- msgctl(2)).
use Rattle.std.specs.Prelude.{ℕ, ℤ, pos, Bool, Option, Some, None, Result, Ok, Err}
use Rattle.std.specs.Prelude.{List, [], ◌∷◌, ◌++◌, length}
use Rattle.mq_message.specs.declared.message.Message.{Message}
use Rattle.mq_message.specs.declared.header.Header.{Header}
use Rattle.mq_message.specs.declared.selection.Selection.{Selection}
use Rattle.mq_message.specs.Waiting.{without}
use Rattle.mq_queue.specs.declared.error.QueueError.{QueueError}
use Rattle.mq_queue.specs.declared.event.Event.{Event}
use Rattle.mq_queue.specs.declared.event.Event.TheVariants as event
use Rattle.mq_queue.specs.Queue.{CutLog}
use Rattle.mq_queue.specs.Answer.{send_refusal, receive_answer, set_refusal}
use Rattle.mq_table.specs.Kept.{KeptSlot, base_now, entries_of, places_now, quota_now, waiting_now}

-- what a call returns, with the slot that it leaves; or why the call is refused
abbrev pub KeptTurn : Type 0 → Type 0 → Type 0
KeptTurn B T = Result (T × KeptSlot B) QueueError

-- the slot with one more event of its queue, and with these messages pending
abbrev pub kept_goes_on : {B : Type 0} → KeptSlot B → Event → List (ℕ × Message B) → KeptSlot B
kept_goes_on s e messages = record s { last = s.last ++ e ∷ []; messages = messages }

-- the entry of the event that the call adds to the slot list, unless the call is refused
abbrev pub kept_unless : {B : Type 0} → Option QueueError → KeptSlot B → KeptSlot B → KeptTurn B ℕ
kept_unless None s after = Ok (entries_of s, after)
kept_unless (Some e) s after = Err e

-- what msgsnd does in the slot's queue
abbrev pub kept_sends : {B : Type 0} → (B → List ℕ) → KeptSlot B → Message B → ℕ → KeptTurn B ℕ
kept_sends bytes s m moment =
    let n = length (bytes m.body) in
    kept_unless (send_refusal (waiting_now s) (quota_now s) m.mtype n) s
    (kept_goes_on s (event.Sent m.sender moment m.tag m.mtype n)
    (s.messages ++ (places_now s, m) ∷ []))

-- what msgrcv does in the slot's queue, where the queue returns this: the message as it was sent
abbrev pub kept_received : {B : Type 0} → KeptSlot B → (Header → Event) → Result Header QueueError
    → KeptTurn B Header
kept_received s e (Ok m) = Ok (m, kept_goes_on s (e m) (without m.place s.messages))
kept_received s e (Err refusal) = Err refusal

-- what msgrcv does in the slot's queue
abbrev pub kept_receives : {B : Type 0} → KeptSlot B → ℕ → Selection → Bool → ℕ → ℕ
    → KeptTurn B Header
kept_receives s size selection noerror seat moment =
    kept_received s (λ m. event.Received seat noerror moment m.place selection size)
    (receive_answer (waiting_now s) size selection noerror)

-- what IPC_SET does in the slot's queue
abbrev pub kept_sets : {B : Type 0} → KeptSlot B → ℕ → ℕ → ℕ → KeptTurn B ℕ
kept_sets s qbytes seat moment =
    kept_unless (set_refusal qbytes) s
    (kept_goes_on s (event.Changed seat moment qbytes) s.messages)

-- the slot once a queue was created in it
abbrev pub kept_makes : {B : Type 0} → KeptSlot B → ℤ → ℕ → ℕ → KeptSlot B
kept_makes s key seat moment =
    record s { key = key; last = event.Made seat moment key ∷ []; messages = [] }

-- the slot once its queue was removed
abbrev pub kept_removes : {B : Type 0} → KeptSlot B → ℕ → ℕ → KeptSlot B
kept_removes s seat moment = record s {
  key = pos 0;
  past = s.past ++ s.last ++ event.Removed seat moment ∷ [];
  last = [];
  messages = [];
}

-- the log of the queue that is removed, of which the beginning may be drained
abbrev pub log_removed : {B : Type 0} → KeptSlot B → ℕ → ℕ → CutLog
log_removed s seat moment =
    record { base = base_now s; tail = s.last ++ event.Removed seat moment ∷ [] }
