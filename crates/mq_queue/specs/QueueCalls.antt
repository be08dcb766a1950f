-- How the calls of a queue end: what they return, and the queue that they leave (msgget(2),
-- msgop(2), msgctl(2)).
use Rattle.std.specs.Prelude.{◌≡◌, ℕ, ℤ, ◌+◌, Bool, None, Ok, List, [], ◌∷◌, ◌++◌, length, min, take, IsSomeAnd}
use Rattle.mq_message.specs.declared.message.Message.{Message}
use Rattle.mq_message.specs.declared.selection.Selection.{Selection}
use Rattle.mq_message.specs.Waiting.{header_of, message_at, without}
use Rattle.mq_queue.specs.declared.base.Base.{Base}
use Rattle.mq_queue.specs.declared.error.QueueError.{QueueError}
use Rattle.mq_queue.specs.declared.event.Event.{Event}
use Rattle.mq_queue.specs.declared.event.Event.TheVariants as event
use Rattle.mq_queue.specs.declared.received.Received.{Received}
use Rattle.mq_queue.specs.Answer.{receive_answer, received_header, send_refusal, set_refusal}
use Rattle.mq_queue.specs.Base.{base_of, quota_from, waiting_from}
use Rattle.mq_queue.specs.Queue.{CutLog, Queue}

-- a call was refused for this reason, and changed nothing
pub record IsRefusedBy {Q : Type 0} (why : QueueError) (old new : Q) (e : QueueError) : Type 0 where
  pub refused : e ≡ why
  pub unchanged : new ≡ old

-- so was the send of this message, which is returned
pub record IsHandedBack {B Q : Type 0} (why : QueueError) (message : Message B) (old new : Q)
    (r : QueueError × Message B) : Type 0 where
  pub refused : r.0 ≡ why
  pub handed_back : r.1 ≡ message
  pub unchanged : new ≡ old

-- a new queue: its creation is its only event, and no message is pending
pub record IsNewQueue {B : Type 0} (seat moment : ℕ) (key : ℤ) (q : Queue B) : Type 0 where
  pub base : q.base ≡ base_of []
  pub tail : q.tail ≡ event.Made seat moment key ∷ []
  pub messages : q.messages ≡ []

-- the event of the send of a message
abbrev pub sending : {B : Type 0} → (B → List ℕ) → Message B → ℕ → Event
sending bytes m moment = event.Sent m.sender moment m.tag m.mtype (length (bytes m.body))

-- a message was sent, which nothing refuses: it is the last pending one, at the next place of the
-- whole log
pub record IsQueued {B : Type 0} (bytes : B → List ℕ) (m : Message B) (moment : ℕ)
    (old new : Queue B) (answer : ℕ) : Type 0 where
  pub accepted : send_refusal (waiting_from old.base old.tail) (quota_from old.base old.tail)
      m.mtype (length (bytes m.body)) ≡ None
  pub place : answer ≡ old.base.places + length old.tail
  pub base : new.base ≡ old.base
  pub tail : new.tail ≡ old.tail ++ sending bytes m moment ∷ []
  pub messages : new.messages ≡ old.messages ++ (old.base.places + length old.tail, m) ∷ []

-- the message that is picked was received, by the next event of the whole log: it is no longer
-- pending
pub record IsHandedOut {B : Type 0} (size : ℕ) (selection : Selection) (noerror : Bool)
    (seat moment : ℕ) (old new : Queue B) (r : Received B) : Type 0 where
  pub accepted : receive_answer (waiting_from old.base old.tail) size selection noerror
      ≡ Ok (received_header r)
  pub entry : r.entry ≡ old.base.places + length old.tail
  pub base : new.base ≡ old.base
  pub tail : new.tail
      ≡ old.tail ++ event.Received seat noerror moment r.place selection size ∷ []
  pub messages : new.messages ≡ without r.place old.messages

-- what a receiver of this size got is the message that was pending: its text, truncated to the
-- size, with what a truncation keeps of it, and its whole header
pub record IsWhatWaited {B : Type 0} (bytes : B → List ℕ) (keeps : B → B → Type 0) (size : ℕ)
    (messages : List (ℕ × Message B)) (r : Received B) : Type 0 where
  pub body : IsSomeAnd (message_at r.place messages) (λ m.
      (bytes r.body ≡ take size (bytes m.body)) × keeps m.body r.body)
  pub sent : IsSomeAnd (message_at r.place messages) (λ m.
      received_header r ≡ header_of bytes (r.place, m))
  pub length : length (bytes r.body) ≡ min r.length size

-- the quota was set, by the next event of the whole log
pub record IsQuotaSet {B : Type 0} (qbytes seat moment : ℕ) (old new : Queue B) (answer : ℕ)
    : Type 0 where
  pub accepted : set_refusal qbytes ≡ None
  pub place : answer ≡ old.base.places + length old.tail
  pub base : new.base ≡ old.base
  pub tail : new.tail ≡ old.tail ++ event.Changed seat moment qbytes ∷ []
  pub messages : new.messages ≡ old.messages

-- a queue was removed: its log, with the removal, and its pending messages are returned
pub record IsEndedQueue {B : Type 0} (seat moment : ℕ) (q : Queue B) (log : CutLog)
    (left : List (ℕ × Message B)) : Type 0 where
  pub base : log.base ≡ q.base
  pub tail : log.tail ≡ q.tail ++ event.Removed seat moment ∷ []
  pub messages : left ≡ q.messages

-- a log was drained to its end: its base and the events since are returned, no event is left, and
-- the pending messages stay
pub record IsCutOff {B : Type 0} (old new : Queue B) (before : Base) (since : List Event)
    : Type 0 where
  pub base : before ≡ old.base
  pub tail : since ≡ old.tail
  pub cut : new.tail ≡ []
  pub messages : new.messages ≡ old.messages
