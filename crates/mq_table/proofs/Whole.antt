-- What the calls of a slot return by its kept part is what they return by the whole list.
use Rattle.std.proofs.Common.{◌≡◌, ℕ, List, [], ◌∷◌, ◌++◌, length, Option, None, Some, Result, Ok, Err, Bool, true, refl, arith}
use Rattle.std.proofs.lemmas.Result.{IfOk-at_ok}
use Rattle.mq_message.specs.declared.message.Message.{Message}
use Rattle.mq_message.specs.declared.header.Header.{Header}
use Rattle.mq_message.specs.declared.selection.Selection.{Selection}
use Rattle.mq_queue.specs.declared.error.QueueError.{QueueError}
use Rattle.mq_queue.specs.declared.error.QueueError.TheVariants.{Memory}
use Rattle.mq_queue.specs.declared.event.Event.{Event}
use Rattle.mq_queue.specs.declared.event.Event.TheVariants as event
use Rattle.mq_queue.specs.Answer.{send_refusal, receive_answer, set_refusal}
use Rattle.mq_queue.specs.Memory.{or_memory}
use Rattle.mq_queue.specs.QueueCalls.{sending}
use Rattle.mq_queue.specs.Room.{quota}
use Rattle.mq_queue.specs.Row.{is_live, last_log}
use Rattle.mq_queue.specs.Waiting.{waiting}
use Rattle.mq_table.specs.Calls.{SlotTurn, with_event, received, receives, sends, sets, changed_unless}
use Rattle.mq_table.specs.Kept.{KeptSlot}
use Rattle.mq_table.specs.KeptCalls.{kept_goes_on, kept_received, kept_receives, kept_sends, kept_sets, kept_unless}
use Rattle.mq_table.specs.KeptPart.{IsKeptPart, whole}
use Rattle.mq_table.specs.Slot.{SlotState}
use Rattle.mq_table.proofs.Kepts.{entries_is}
use Rattle.mq_table.proofs.KeptTurns.{places_last, quota_last, waits_last}

-- why a call is refused, where it returns an entry
refused_same : {B : Type 0} (o : Option QueueError) (s after : KeptSlot B) (w other : SlotState B)
    → or_memory Memory (kept_unless o s after) ≡ or_memory Memory (changed_unless o w other)
refused_same o s after w other = grind arith

-- the whole slot returns the same, and has this event more
pub record IsWholeTurn {B T : Type 0} (list : List Event) (e : Event) (turn : SlotTurn B T) (r : T)
    (t : KeptSlot B) : Type 0 where
  pub answers : turn ≡ Ok (r, whole (list ++ e ∷ []) t)

module _ {B : Type 0} (list : List Event) (s : KeptSlot B) (k : IsKeptPart list s)
    (live : is_live list ≡ true) where
  -- a call that returns an entry
  unless_whole : (e : Event) (messages : List (ℕ × Message B)) (entry : ℕ) (t : KeptSlot B)
      (o : Option QueueError) → kept_unless o s (kept_goes_on s e messages) ≡ Ok (entry, t)
      → changed_unless o (whole list s) (with_event (whole list s) e messages)
      ≡ Ok (entry, whole (list ++ e ∷ []) t)
  unless_whole e messages entry t None is =
      IfOk-at_ok (λ turn. changed_unless None (whole list s) (with_event (whole list s) e messages)
      ≡ Ok (turn.0, whole (list ++ e ∷ []) turn.1)) is (rw (entries_is list s k) refl)
  unless_whole e messages entry t (Some refusal) is = cc

  -- a receipt
  received_whole : (e : Header → Event) (m : Header) (t : KeptSlot B)
      (a : Result Header QueueError) → kept_received s e a ≡ Ok (m, t)
      → received (whole list s) e a ≡ Ok (m, whole (list ++ e m ∷ []) t)
  received_whole e m t (Ok named) is =
      IfOk-at_ok (λ turn. received (whole list s) e (Ok named)
      ≡ Ok (turn.0, whole (list ++ e turn.0 ∷ []) turn.1)) is refl
  received_whole e m t (Err refusal) is = cc

  received_refused : (e : Header → Event) (a : Result Header QueueError)
      → or_memory Memory (kept_received s e a) ≡ or_memory Memory (received (whole list s) e a)
  received_refused e a = grind arith

  -- msgsnd
  module _ (bytes : B → List ℕ) (m : Message B) (moment : ℕ) where
    pub sends_whole : (entry : ℕ) (t : KeptSlot B)
        → kept_sends bytes s m moment ≡ Ok (entry, t)
        → IsWholeTurn list (sending bytes m moment) (sends bytes (whole list s) m moment) entry t
    sends_whole entry t is =
        let log = last_log list in
        let refusal = send_refusal (waiting log) (quota log) m.mtype (length (bytes m.body)) in
        record {
          answers =
              unless_whole _ _ entry t refusal
              (rw (waits_last list s k live, quota_last list s k live, places_last list s k live)
              at is);
        }

    -- why it is refused
    pub send_refused : or_memory Memory (kept_sends bytes s m moment)
        ≡ or_memory Memory (sends bytes (whole list s) m moment)
    send_refused = rw (waits_last list s k live, quota_last list s k live) (search refused_same)

  -- msgrcv
  module _ (size : ℕ) (selection : Selection) (noerror : Bool) (seat moment : ℕ) where
    abbrev pub got : Header → Event
    got m = event.Received seat noerror moment m.place selection size

    abbrev answer : Result Header QueueError
    answer = receive_answer (waiting (last_log list)) size selection noerror

    pub receives_whole : (m : Header) (t : KeptSlot B)
        → kept_receives s size selection noerror seat moment ≡ Ok (m, t)
        → IsWholeTurn list (got m)
        (receives (whole list s) size selection noerror seat moment) m t
    receives_whole m t is =
        record { answers = received_whole got m t answer (rw (waits_last list s k live) at is) }

    -- why it is refused
    pub receive_refused : or_memory Memory (kept_receives s size selection noerror seat moment)
        ≡ or_memory Memory (receives (whole list s) size selection noerror seat moment)
    receive_refused = rw (waits_last list s k live) (received_refused got answer)

  -- IPC_SET
  module _ (qbytes seat moment : ℕ) where
    pub sets_whole : (entry : ℕ) (t : KeptSlot B) → kept_sets s qbytes seat moment ≡ Ok (entry, t)
        → IsWholeTurn list (event.Changed seat moment qbytes)
        (sets (whole list s) qbytes seat moment) entry t
    sets_whole entry t is =
        record { answers = unless_whole _ s.messages entry t (set_refusal qbytes) is }

    -- why it is refused
    pub set_refused : or_memory Memory (kept_sets s qbytes seat moment)
        ≡ or_memory Memory (sets (whole list s) qbytes seat moment)
    set_refused = refused_same (set_refusal qbytes) _ _ _ _
