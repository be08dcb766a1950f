-- What the calls of a slot leave is a slot, by its fields.
use Rattle.std.proofs.Common.{◌≡◌, ℕ, ℤ, ◌+◌, ◌≤◌, List, [], ◌∷◌, ◌++◌, length, Option, IfSome, is_some, not, ap, sym, ◌∙◌, arith, Some}
use Rattle.std.specs.Option.{option_or}
use Rattle.mq_queue.specs.declared.base.Base.{Base}
use Rattle.mq_queue.specs.declared.event.Event.{Event}
use Rattle.mq_queue.specs.Log.{is_removed}
use Rattle.mq_queue.specs.Queue.{Queue}
use Rattle.mq_queue.specs.Row.{last_log, made_count}
use Rattle.mq_table.specs.Kept.{KeptSlot, base_now, entries_of}
use Rattle.mq_table.specs.KeptPart.{IsKeptPart, WaitsNow}
use Rattle.mq_table.specs.SlotParts.{IsSlot, live_base, own_base, slot_with}
use Rattle.mq_table.specs.declared.limits.TheConstants.{MAX_PAST, MAX_SEQ}
use Rattle.mq_table.proofs.Grown.{log_within}
use Rattle.mq_table.proofs.Kepts.{entries_is, live_is, made_more, there_more}
use Rattle.mq_table.proofs.KeptTurns.{places_last}
use Rattle.mq_table.proofs.Turned.{IsTurned}

module _ {B : Type 0} (bytes : B → List ℕ) (number first gone : ℕ) (key : ℤ) (base : Option Base)
    (past : List Event) (made : ℕ) (live : Option (Queue B))
    (h : IsSlot bytes made live base (slot_with number first gone key base past live)) where
  abbrev slot : KeptSlot B
  slot = slot_with number first gone key base past live

  abbrev list : List Event
  list = h.lawful.list

  abbrev part : IsKeptPart list slot
  part = h.lawful.part

  -- the slot has this event more, with so many creations, these fields and this queue in it
  pub turned_slot : (key' : ℤ) (base' : Option Base) (past' : List Event)
      (live' : Option (Queue B)) (e : Event) (t : KeptSlot B)
      → slot_with number first gone key' base' past' live' ≡ t → IsTurned MAX_SEQ list e slot t
      → (made' : ℕ) → made' ≡ made + made_count (e ∷ []) → made' ≤ MAX_SEQ + 1
      → first + length past' ≤ MAX_PAST → is_some live' ≡ not (is_removed e)
      → IfSome live' (λ queue. queue.base ≡ base_now t) → WaitsNow bytes t
      → base' ≡ own_base live' (option_or (live_base live') base')
      → IsSlot bytes made' live' base' (slot_with number first gone key' base' past' live')
  turned_slot key' base' past' live' e t with turn made' more few short there based waits own =
      rw with (record {
        numbered = omega (arith, h.numbered, turn.number);
        counted = omega (arith, h.counted, more, made_more list slot part e t turn.keeps);
        few = few;
        short = rw (← with) short;
        lawful = record { list = list ++ e ∷ []; part = turn.keeps; lawful = turn.lawful };
        there = there ∙ sym (there_more list slot part e t turn.keeps);
        based = based;
        last = ap (λ (s : KeptSlot B). s.last) (sym with);
        messages = ap (λ (s : KeptSlot B). s.messages) (sym with);
        waits = waits;
        own = rw (← with) own;
      })

-- the log of the queue that is there is within the list
pub within : {B : Type 0} (bytes : B → List ℕ) (made : ℕ) (q : Queue B) (base : Option Base)
    (s : KeptSlot B) → IsSlot bytes made (Some q) base s → q.base.places + length q.tail ≤ entries_of s
within bytes made q base s h =
    let list = h.lawful.list in
    let part = h.lawful.part in
    let live = rw (live_is list s part) at (sym h.there) in
    let log : q.base.places + length q.tail ≡ length (last_log list) =
    rw (h.based, ← h.last) (places_last list s part live) in
    omega (arith, log, log_within MAX_SEQ list h.lawful.lawful live, entries_is list s part)
