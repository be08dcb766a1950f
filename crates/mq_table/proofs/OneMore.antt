-- A call of the queue that is in a slot: it adds one event, which can happen.
use Rattle.std.proofs.Common.{◌≡◌, ℕ, List, [], ◌∷◌, ◌++◌, length, Option, None, Some, Result, Ok, Err, Bool, false, refl, ap, ◌∙◌}
use Rattle.std.proofs.lemmas.Result.{IfOk-at_ok}
use Rattle.mq_message.specs.declared.message.Message.{Message}
use Rattle.mq_message.specs.declared.header.Header.{Header}
use Rattle.mq_message.specs.declared.selection.Selection.{Selection}
use Rattle.mq_message.specs.Waiting.{header_of, headers_of, without}
use Rattle.mq_queue.specs.declared.error.QueueError.{QueueError}
use Rattle.mq_queue.specs.declared.event.Event.{Event}
use Rattle.mq_queue.specs.declared.event.Event.TheVariants as event
use Rattle.mq_queue.specs.Answer.{send_refusal, receive_answer, set_refusal}
use Rattle.mq_queue.specs.Lawful.{CanHappen}
use Rattle.mq_queue.specs.Log.{is_made, is_removed, key_told}
use Rattle.mq_queue.specs.QueueCalls.{sending}
use Rattle.mq_queue.specs.Replay.{after_event}
use Rattle.mq_queue.proofs.Found.{headers_without}
use Rattle.mq_queue.proofs.Sends.{map_push}
use Rattle.mq_table.specs.Kept.{KeptSlot, places_now, quota_now, waiting_now}
use Rattle.mq_table.specs.KeptCalls.{kept_goes_on, kept_received, kept_receives, kept_sends, kept_sets, kept_unless}
use Rattle.mq_table.specs.KeptPart.{WaitsNow}
use Rattle.mq_table.proofs.Can.{received_can, sent_can, set_can}

-- the slot has this event more, which can happen and is neither a creation nor a removal, and the
-- messages are those that it leaves pending
pub record IsOneMore {B : Type 0} (bytes : B → List ℕ) (s t : KeptSlot B) (e : Event) : Type 0
  where
    pub messages : List (ℕ × Message B)
    pub left : t ≡ kept_goes_on s e messages
    pub unmade : is_made e ≡ false
    pub stays : is_removed e ≡ false
    pub untold : key_told e ≡ None
    pub allowed : CanHappen (waiting_now s) (quota_now s) e
    pub waits : WaitsNow bytes s → headers_of bytes messages
        ≡ (after_event (places_now s) (record { headers = waiting_now s; quota = quota_now s }) e).headers

-- what a call leaves that returns an entry, and that it was not refused
left_by : {B : Type 0} (o : Option QueueError) (s after t : KeptSlot B) (n : ℕ)
    → kept_unless o s after ≡ Ok (n, t) → (o ≡ None) × (t ≡ after)
left_by None s after t n e = (refl, IfOk-at_ok (λ turn. turn.1 ≡ after) e refl)
left_by (Some refusal) s after t n e = cc

-- the same of a receipt
taken_by : {B : Type 0} (s t : KeptSlot B) (e : Header → Event) (answer : Result Header QueueError)
    (m : Header) → kept_received s e answer ≡ Ok (m, t)
    → (answer ≡ Ok m) × (t ≡ kept_goes_on s (e m) (without m.place s.messages))
taken_by s t e (Ok named) m is =
    IfOk-at_ok (λ turn. (◌≡◌ {A = Result Header QueueError} (Ok named) (Ok turn.0))
    × (turn.1 ≡ kept_goes_on s (e turn.0) (without turn.0.place s.messages))) is (refl, refl)
taken_by s t e (Err refusal) m is = cc

module _ {B : Type 0} (bytes : B → List ℕ) (s t : KeptSlot B) where
  -- msgsnd
  pub sent_more : (m : Message B) (moment entry : ℕ)
      → kept_sends bytes s m moment ≡ Ok (entry, t) → IsOneMore bytes s t (sending bytes m moment)
  sent_more m moment entry is =
      let n = length (bytes m.body) in
      let messages : List (ℕ × Message B) = s.messages ++ (places_now s, m) ∷ [] in
      let by = left_by (send_refusal (waiting_now s) (quota_now s) m.mtype n) s
      (kept_goes_on s (sending bytes m moment) messages) t entry is in record {
        messages = messages;
        left = by.1;
        unmade = refl;
        stays = refl;
        untold = refl;
        allowed = sent_can (waiting_now s) (quota_now s) m.sender moment m.tag m.mtype n by.0;
        waits = λ waits. map_push (header_of bytes) s.messages (places_now s, m)
            ∙ ap (λ hs. hs ++ header_of bytes (places_now s, m) ∷ []) waits;
      }

  -- msgrcv
  pub received_more : (size : ℕ) (selection : Selection) (noerror : Bool) (seat moment : ℕ)
      (m : Header) → kept_receives s size selection noerror seat moment ≡ Ok (m, t)
      → IsOneMore bytes s t (event.Received seat noerror moment m.place selection size)
  received_more size selection noerror seat moment m is =
      let by = taken_by s t (λ m. event.Received seat noerror moment m.place selection size)
      (receive_answer (waiting_now s) size selection noerror) m is in record {
        messages = without m.place s.messages;
        left = by.1;
        unmade = refl;
        stays = refl;
        untold = refl;
        allowed =
            received_can (waiting_now s) (quota_now s) seat moment size selection noerror m by.0;
        waits = λ waits. rw (headers_without bytes s.messages m.place, waits) refl;
      }

  -- IPC_SET
  pub set_more : (qbytes seat moment entry : ℕ)
      → kept_sets s qbytes seat moment ≡ Ok (entry, t)
      → IsOneMore bytes s t (event.Changed seat moment qbytes)
  set_more qbytes seat moment entry is =
      let by = left_by (set_refusal qbytes) s
      (kept_goes_on s (event.Changed seat moment qbytes) s.messages) t entry is in record {
        messages = s.messages;
        left = by.1;
        unmade = refl;
        stays = refl;
        untold = refl;
        allowed = set_can (waiting_now s) (quota_now s) seat moment qbytes by.0;
        waits = λ waits. waits;
      }
