-- What the calls of a slot return and leave (msgget(2), msgop(2), msgctl(2)).
use Rattle.std.specs.Prelude.{ℕ, ℤ, Bool, Option, Some, None, Result, Ok, Err, List, [], ◌∷◌, ◌++◌, length}
use Rattle.mq_message.specs.declared.message.Message.{Message}
use Rattle.mq_message.specs.declared.selection.Selection.{Selection}
use Rattle.mq_message.specs.declared.header.Header.{Header}
use Rattle.mq_message.specs.Waiting.{without}
use Rattle.mq_queue.specs.declared.error.QueueError.{QueueError}
use Rattle.mq_queue.specs.declared.event.Event.{Event}
use Rattle.mq_queue.specs.declared.event.Event.TheVariants as event
use Rattle.mq_queue.specs.Answer.{send_refusal, receive_answer, set_refusal}
use Rattle.mq_queue.specs.Room.{quota}
use Rattle.mq_queue.specs.Row.{last_log}
use Rattle.mq_queue.specs.Waiting.{waiting}
use Rattle.mq_table.specs.Slot.{SlotState}

-- what a call returns, with the slot that it leaves; or why the call is refused
abbrev pub SlotTurn : Type 0 → Type 0 → Type 0
SlotTurn B T = Result (T × SlotState B) QueueError

-- the slot with one more event, and with these messages pending
abbrev pub with_event : {B : Type 0} → SlotState B → Event → List (ℕ × Message B) → SlotState B
with_event s e messages =
    record { number = s.number; events = s.events ++ e ∷ []; messages = messages }

-- the entry of the event that the call adds to the slot list, unless the call is refused
abbrev pub changed_unless : {B : Type 0} → Option QueueError → SlotState B → SlotState B
    → SlotTurn B ℕ
changed_unless None s after = Ok (length s.events, after)
changed_unless (Some e) s after = Err e

-- what msgsnd does in the slot's queue
abbrev pub sends : {B : Type 0} → (B → List ℕ) → SlotState B → Message B → ℕ → SlotTurn B ℕ
sends bytes s m moment =
    let log = last_log s.events in
    let n = length (bytes m.body) in
    changed_unless (send_refusal (waiting log) (quota log) m.mtype n) s
    (with_event s (event.Sent m.sender moment m.tag m.mtype n) (s.messages ++ (length log, m) ∷ []))

-- what msgrcv does in the slot's queue, where the queue returns this: the message as it was sent
abbrev pub received : {B : Type 0} → SlotState B → (Header → Event) → Result Header QueueError
    → SlotTurn B Header
received s e (Ok m) = Ok (m, with_event s (e m) (without m.place s.messages))
received s e (Err refusal) = Err refusal

-- what msgrcv does in the slot's queue
abbrev pub receives : {B : Type 0} → SlotState B → ℕ → Selection → Bool → ℕ → ℕ → SlotTurn B Header
receives s size selection noerror seat moment =
    received s (λ m. event.Received seat noerror moment m.place selection size)
    (receive_answer (waiting (last_log s.events)) size selection noerror)

-- what IPC_SET does in the slot's queue
abbrev pub sets : {B : Type 0} → SlotState B → ℕ → ℕ → ℕ → SlotTurn B ℕ
sets s qbytes seat moment =
    changed_unless (set_refusal qbytes) s
    (with_event s (event.Changed seat moment qbytes) s.messages)

-- the slot once a queue was created in it
abbrev pub makes : {B : Type 0} → SlotState B → ℤ → ℕ → ℕ → SlotState B
makes s key seat moment = with_event s (event.Made seat moment key) []

-- the slot once its queue was removed
abbrev pub removes : {B : Type 0} → SlotState B → ℕ → ℕ → SlotState B
removes s seat moment = with_event s (event.Removed seat moment) []
