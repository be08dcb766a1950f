-- A change of a queue is the next entry of its slot, which has one more then.
use Rattle.std.proofs.Common.{◌≡◌, ℕ, ◌+◌, pos, int_lt, if◌then◌else◌, Bool, true, false, List, [], ◌∷◌, ◌++◌, length, Option, None, Some, Result, Ok, Err, refl, ap, sym, ◌∙◌}
use Rattle.std.proofs.lemmas.List.{length_push}
use Rattle.mq_arena.specs.Text.{PlainText}
use Rattle.mq_message.specs.declared.header.Header.{Header}
use Rattle.mq_message.specs.declared.message.Message.{Message}
use Rattle.mq_message.specs.declared.selection.Selection.{Selection}
use Rattle.mq_queue.specs.Answer.{receive_answer, send_refusal}
use Rattle.mq_queue.specs.Room.{quota}
use Rattle.mq_queue.specs.Row.{last_log}
use Rattle.mq_queue.specs.Waiting.{waiting}
use Rattle.mq_queue.specs.declared.error.QueueError.{QueueError}
use Rattle.mq_queue.specs.declared.event.Event.{Event}
use Rattle.mq_queue.specs.declared.event.Event.TheVariants as event
use Rattle.mq_table.specs.Calls.{changed_unless, received, with_event}
use Rattle.mq_table.specs.Slot.{SlotState}
use Rattle.mq_calls.specs.Calls.{delivers}
use Rattle.mq_calls.specs.Look.{once, refused_early}
use Rattle.mq_calls.specs.Texts.{bytes_of}
use Rattle.mq_calls.specs.declared.errno.Errno.TheVariants.{EINVAL}
use Rattle.mq_calls.specs.declared.results.Delivered.{Delivered}
use Rattle.mq_calls.specs.declared.results.Refused.{Refused}
use Rattle.mq_system.specs.Answer.{SlotAnswer, answered_in_slot, looks_in_slot, receive_in_slot, send_in_slot}

-- an entry, and how many the slot has then
abbrev pub IsNextEntry : SlotState PlainText → ℕ → SlotState PlainText → Type 0
IsNextEntry s entry t = (entry ≡ length s.events) × (length t.events ≡ length s.events + 1)

abbrev told : {T : Type 0} → T × SlotState PlainText → SlotAnswer T → T × SlotState PlainText
told other (Ok turn) = turn
told other (Err refused) = other

module _ (s : SlotState PlainText) where
  sends_next : (early : Bool) (looked : Result (Unit {0}) Refused) (refusal : Option QueueError)
      (e : Event) (messages : List (ℕ × Message PlainText)) (entry : ℕ) (t : SlotState PlainText)
      → (if early then Err (refused_early EINVAL) else once looked (answered_in_slot s (changed_unless refusal s (with_event s e messages)))) ≡ Ok (entry, t)
      → IsNextEntry s entry t
  sends_next true looked refusal e messages entry t is = cc
  sends_next false (Err refused) refusal e messages entry t is = cc
  sends_next false (Ok _) (Some refusal) e messages entry t is = cc
  sends_next false (Ok _) None e messages entry t is = (
    ap (λ a. (told (entry, t) a).0) (sym is),
    ap (λ a. length (told (entry, t) a).1.events) (sym is) ∙ length_push s.events e,
  )

  pub sent_next : (id : ℕ) (m : Message PlainText) (moment entry : ℕ) (t : SlotState PlainText)
      → send_in_slot s id m moment ≡ Ok (entry, t) → IsNextEntry s entry t
  sent_next id m moment entry t is =
      let log = last_log s.events in
      let n = length (bytes_of m.body) in
      sends_next (int_lt m.mtype (pos 1)) (looks_in_slot s id)
      (send_refusal (waiting log) (quota log) m.mtype n)
      (event.Sent m.sender moment m.tag m.mtype n) (s.messages ++ (length log, m) ∷ []) entry t is

  -- what was sent has a type from 1
  pub sent_positive : (id : ℕ) (m : Message PlainText) (moment entry : ℕ) (t : SlotState PlainText)
      → send_in_slot s id m moment ≡ Ok (entry, t) → int_lt m.mtype (pos 1) ≡ false
  sent_positive id m moment entry t is = by (int_lt m.mtype (pos 1)) refl
    where
      by : (b : Bool) → int_lt m.mtype (pos 1) ≡ b → int_lt m.mtype (pos 1) ≡ false
      by false sent = sent
      by true small =
          let no : Err (refused_early EINVAL) ≡ Ok (entry, t) = rw small at is in cc

  receives_next : (looked : Result (Unit {0}) Refused) (named : Result Header QueueError) (size : ℕ)
      (e : Header → Event) (d : Delivered PlainText) (t : SlotState PlainText)
      → once looked (answered_in_slot s (delivers s.messages size (length s.events) (received s e named))) ≡ Ok (d, t)
      → IsNextEntry s d.entry t
  receives_next (Err refused) named size e d t is = cc
  receives_next (Ok _) (Err refusal) size e d t is = cc
  receives_next (Ok _) (Ok m) size e d t is = (
    ap (λ a. (told (d, t) a).0.entry) (sym is),
    ap (λ a. length (told (d, t) a).1.events) (sym is) ∙ length_push s.events (e m),
  )

  pub received_next : (id size : ℕ) (selection : Selection) (noerror : Bool) (seat moment : ℕ)
      (d : Delivered PlainText) (t : SlotState PlainText)
      → receive_in_slot s id size selection noerror seat moment ≡ Ok (d, t) → IsNextEntry s d.entry t
  received_next id size selection noerror seat moment d t is =
      receives_next (looks_in_slot s id)
      (receive_answer (waiting (last_log s.events)) size selection noerror) size
      (λ m. event.Received seat noerror moment m.place selection size) d t is
