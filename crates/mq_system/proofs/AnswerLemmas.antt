-- What a call under a slot's lock answers, by what its queue returned.
use Rattle.std.proofs.Common.{◌≡◌, ℕ, ℤ, if◌then◌else◌, ◌&&◌, Bool, List, length, Option, None, Some, Result, Ok, Err, refl, ap, sym, ◌∙◌}
use Rattle.std.specs.Ordering.{int_eq}
use Rattle.mq_arena.specs.Text.{PlainText}
use Rattle.mq_message.specs.declared.header.Header.{Header}
use Rattle.mq_message.specs.declared.message.Message.{Message}
use Rattle.mq_queue.specs.declared.error.QueueError.{QueueError}
use Rattle.mq_queue.specs.declared.error.QueueError.TheVariants.{Memory}
use Rattle.mq_queue.specs.Memory.{or_memory}
use Rattle.mq_queue.specs.Queue.{rest_of}
use Rattle.mq_queue.specs.Row.{is_live, last_log, live_key}
use Rattle.mq_queue.specs.declared.event.Event.{Event}
use Rattle.mq_table.specs.Calls.{SlotTurn}
use Rattle.mq_table.specs.Kept.{KeptSlot, is_live_kept}
use Rattle.mq_table.specs.KeptPart.{IsKeptPart, whole}
use Rattle.mq_table.specs.KeptShown.{last_id_now}
use Rattle.mq_table.specs.Slot.{SlotState}
use Rattle.mq_table.proofs.Kepts.{last_id_is, live_is}
use Rattle.mq_calls.specs.Calls.{delivers}
use Rattle.mq_calls.specs.Look.{errno_of, once}
use Rattle.mq_calls.specs.declared.results.Refused.{Refused}
use Rattle.mq_calls.specs.declared.results.Removal.{Removal}
use Rattle.mq_system.specs.Answer.{answered_in_slot, id_with_key, refused_here}
use Rattle.mq_system.specs.Answer.{refused_or_memory_in_slot, removal}

module _ (s : SlotState PlainText) where
  -- the queue is there, and was not refused
  pub answered_by : {T : Type 0} (looked : Result (Unit {0}) Refused) → Ok tt ≡ looked
      → (turn : SlotTurn PlainText T) (r : T) (t : SlotState PlainText) → turn ≡ Ok (r, t)
      → once looked (answered_in_slot s turn) ≡ Ok (r, t)
  answered_by (Ok _) there turn r t is = ap (answered_in_slot s) is
  answered_by (Err refused) there turn r t is = cc

  -- or it was
  pub refused_by : {T : Type 0} (looked : Result (Unit {0}) Refused) → Ok tt ≡ looked
      → (turn : SlotTurn PlainText T) (refusal : QueueError) (r : Refused)
      → refusal ≡ or_memory Memory turn → r ≡ refused_here s (errno_of refusal)
      → r ≡ refused_or_memory_in_slot s (once looked (answered_in_slot s turn))
  refused_by (Ok _) there (Ok turn) refusal r why is =
      is ∙ ap (λ e. refused_here s (errno_of e)) why
  refused_by (Ok _) there (Err e) refusal r why is =
      is ∙ ap (λ e. refused_here s (errno_of e)) why
  refused_by (Err refused) there turn refusal r why is = cc

-- why a receiver is refused
pub not_delivered : (messages : List (ℕ × Message PlainText)) (size entry : ℕ)
    (turn : SlotTurn PlainText Header)
    → or_memory Memory turn ≡ or_memory Memory (delivers messages size entry turn)
not_delivered messages size entry (Ok turn) = refl
not_delivered messages size entry (Err refusal) = refl

-- the id of the queue, where it is there and has this key, or none
abbrev pub id_where : Bool → Bool → ℕ → Option ℕ
id_where live same id = if live && same then Some id else None

-- the kept part of a slot determines the id of its queue by this key
pub with_key_is : (list : List Event) (s : KeptSlot PlainText) → IsKeptPart list s → (key : ℤ)
    (found : Option ℕ) → found ≡ id_where (is_live_kept s) (int_eq s.key key) (last_id_now s)
    → found ≡ id_with_key (whole list s) key
with_key_is list s k key found is =
    is ∙ ap (λ live. id_where live (int_eq s.key key) (last_id_now s)) (live_is list s k)
    ∙ ap (λ own. id_where (is_live list) (int_eq own key) (last_id_now s)) k.keyed
    ∙ ap (λ id. id_where (is_live list) (int_eq (live_key list) key) id) (last_id_is list s k)

-- the queue is there, and was removed
pub removed_by : (s : SlotState PlainText) (looked : Result (Unit {0}) Refused) → Ok tt ≡ looked
    → (after : SlotState PlainText) (r : Removal) → r.entry ≡ length s.events
    → r.log ≡ rest_of r.log.base.places (last_log after.events)
    → once {A = Removal × SlotState PlainText} looked (Ok (removal s after r.log.base.places, after))
    ≡ Ok (r, after)
removed_by s (Ok _) there after r entry log =
    λ i. Ok (record { entry = (sym entry) i; log = (sym log) i }, after)
removed_by s (Err refused) there after r entry log = cc
