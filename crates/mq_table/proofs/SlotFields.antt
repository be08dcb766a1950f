-- What the calls of the queue in a slot leave is a slot, by its fields.
use Rattle.std.proofs.Common.{◌≡◌, ℕ, ℤ, List, [], ◌∷◌, ◌++◌, length, Option, None, Some, unwrap_or, Bool, false, not, refl, ap, sym, ◌∙◌, arith}
use Rattle.mq_message.specs.declared.message.Message.{Message}
use Rattle.mq_message.specs.declared.header.Header.{Header}
use Rattle.mq_message.specs.declared.selection.Selection.{Selection}
use Rattle.mq_message.specs.Waiting.{headers_of}
use Rattle.mq_queue.specs.declared.base.Base.{Base}
use Rattle.mq_queue.specs.declared.error.QueueError.{QueueError}
use Rattle.mq_queue.specs.declared.error.QueueError.TheVariants.{Memory}
use Rattle.mq_queue.specs.declared.event.Event.{Event}
use Rattle.mq_queue.specs.declared.event.Event.TheVariants as event
use Rattle.mq_queue.specs.Answer.{received_header, send_refusal}
use Rattle.mq_queue.specs.Base.{quota_from, waiting_from}
use Rattle.mq_queue.specs.Lawful.{CanHappen}
use Rattle.mq_queue.specs.Log.{is_made, is_removed, key_told}
use Rattle.mq_queue.specs.Memory.{or_memory}
use Rattle.mq_queue.specs.Queue.{Queue}
use Rattle.mq_queue.specs.QueueCalls.{IsHandedOut, IsQueued, IsQuotaSet, sending}
use Rattle.mq_queue.specs.Row.{made_count}
use Rattle.mq_queue.specs.declared.received.Received.{Received}
use Rattle.mq_table.specs.Kept.{KeptSlot}
use Rattle.mq_table.specs.KeptCalls.{kept_goes_on, kept_sends, kept_unless}
use Rattle.mq_table.specs.SlotParts.{IsSlot, slot_with}
use Rattle.mq_table.specs.declared.limits.TheConstants.{MAX_SEQ}
use Rattle.mq_table.proofs.Can.{received_can, sent_can, set_can}
use Rattle.mq_table.proofs.Kepts.{live_is}
use Rattle.mq_table.proofs.Slots.{turned_slot}
use Rattle.mq_table.proofs.Turned.{event_turned}

-- why a call is refused that returns an entry
refused_for : {B : Type 0} (o : Option QueueError) (s after : KeptSlot B)
    → or_memory Memory (kept_unless o s after) ≡ unwrap_or o Memory
refused_for o s after = grind arith

module _ {B : Type 0} (bytes : B → List ℕ) (number first gone : ℕ) (key : ℤ) (base : Option Base)
    (past : List Event) (made : ℕ) (q : Queue B)
    (h : IsSlot bytes made (Some q) base (slot_with number first gone key base past (Some q))) where
  abbrev slot : Queue B → KeptSlot B
  slot queue = slot_with number first gone key base past (Some queue)

  abbrev headers : List Header
  headers = waiting_from q.base q.tail

  abbrev quota : ℕ
  quota = quota_from q.base q.tail

  -- why it refuses a send
  pub refused_send : (m : Message B) (moment : ℕ)
      → or_memory Memory (kept_sends bytes (slot q) m moment)
      ≡ unwrap_or (send_refusal headers quota m.mtype (length (bytes m.body))) Memory
  refused_send m moment =
      rw (← h.based)
      (refused_for (send_refusal headers quota m.mtype (length (bytes m.body))) _ _)

  -- the queue after a call
  module _ (q' : Queue B) (waits : headers_of bytes q'.messages ≡ waiting_from q'.base q'.tail)
    where
      -- with one event more
      gone_on : (e : Event) → q'.base ≡ q.base → q'.tail ≡ q.tail ++ e ∷ [] → is_made e ≡ false
          → is_removed e ≡ false → key_told e ≡ None → CanHappen headers quota e
          → IsSlot bytes made (Some q') base (slot q')
      gone_on e based tail unmade stays untold allowed =
          let live = rw (live_is h.lawful.list (slot q) h.lawful.part) at (sym h.there) in
          let none : made_count (e ∷ []) ≡ 0 = rw unmade refl in
          turned_slot bytes number first gone key base past made (Some q) h key base past (Some q')
          e (kept_goes_on (slot q) e q'.messages) (rw (based, tail) refl)
          (event_turned MAX_SEQ h.lawful.list (slot q) h.lawful.part h.lawful.lawful live e
          q'.messages unmade stays untold (rw h.based at allowed))
          made (omega (arith, none)) h.few h.short (sym (ap not stays)) (based ∙ h.based)
          (rw (← h.based, ← based, ← tail) waits) (rw based h.own)

      pub sent_slot : (m : Message B) (moment answer : ℕ) → IsQueued bytes m moment q q' answer
          → IsSlot bytes made (Some q') base (slot q')
      sent_slot m moment answer sent =
          gone_on (sending bytes m moment) sent.base sent.tail refl refl refl
          (sent_can headers quota m.sender moment m.tag m.mtype (length (bytes m.body)) sent.accepted)

      pub got_slot : (size : ℕ) (selection : Selection) (noerror : Bool) (seat moment : ℕ)
          (r : Received B) → IsHandedOut size selection noerror seat moment q q' r
          → IsSlot bytes made (Some q') base (slot q')
      got_slot size selection noerror seat moment r got =
          gone_on (event.Received seat noerror moment r.place selection size) got.base got.tail refl
          refl refl
          (received_can headers quota seat moment size selection noerror (received_header r)
          got.accepted)

      pub changed_slot : (qbytes seat moment answer : ℕ)
          → IsQuotaSet qbytes seat moment q q' answer
          → IsSlot bytes made (Some q') base (slot q')
      changed_slot qbytes seat moment answer changed =
          gone_on (event.Changed seat moment qbytes) changed.base changed.tail refl refl refl
          (set_can headers quota seat moment qbytes changed.accepted)
