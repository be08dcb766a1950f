-- What a call of a slot's queue leaves as it was, by the part that the slot keeps.
use Rattle.std.proofs.Common.{◌≡◌, ℕ, ℤ, ◌+◌, List, [], ◌∷◌, ◌++◌, append_assoc, true, false, refl, ap, arith}
use Rattle.std.proofs.lemmas.List.Sums.{fold-append}
use Rattle.mq_message.specs.declared.message.Message.{Message}
use Rattle.mq_queue.specs.declared.event.Event.{Event}
use Rattle.mq_queue.specs.declared.event.Event.TheVariants as event
use Rattle.mq_queue.specs.Log.{is_made, is_removed}
use Rattle.mq_queue.specs.Row.{made_count}
use Rattle.mq_table.specs.Kept.{KeptSlot, is_live_kept, kept_of, made_of}
use Rattle.mq_table.specs.KeptCalls.{kept_goes_on, kept_makes, kept_removes}
use Rattle.mq_table.specs.KeptPart.{IsKeptPart, IsLawfulSlot}
use Rattle.mq_table.proofs.Kepts.{live_is, made_more, there_more}
use Rattle.mq_table.proofs.KeptTurns.{makes_kept, removes_kept}
use Rattle.mq_table.proofs.Logs.{counted}
use Rattle.mq_table.proofs.OneMore.{IsOneMore}

-- the slot's number, its creations, whether a queue is in it, and the key of that queue
pub record KeptStays {B : Type 0} (s t : KeptSlot B) : Type 0 where
  pub number : t.number ≡ s.number
  pub made : made_of t ≡ made_of s
  pub live : is_live_kept t ≡ is_live_kept s
  pub key : t.key ≡ s.key

-- one more event that is neither a creation nor a removal
goes : {B : Type 0} (s : KeptSlot B) (e : Event) (messages : List (ℕ × Message B))
    → is_live_kept s ≡ true → is_made e ≡ false → is_removed e ≡ false
    → KeptStays s (kept_goes_on s e messages)
goes s e messages live unmade stays =
    let one : made_count (e ∷ []) ≡ 0 = rw unmade refl in
    let parts = append_assoc s.past s.last (e ∷ []) in record {
      number = refl;
      made = omega (arith, ap made_count parts, counted (kept_of s) (e ∷ []), one);
      live = rw (← parts, fold-append _ _ (kept_of s), stays, live) refl;
      key = refl;
    }

-- a call of the queue that is there
pub more_stays : {B : Type 0} (bytes : B → List ℕ) (s t : KeptSlot B) (e : Event)
    → is_live_kept s ≡ true → IsOneMore bytes s t e → KeptStays s t
more_stays bytes s t e live more =
    rw more.left (goes s e more.messages live more.unmade more.stays)

module _ {B : Type 0} (last_seq : ℕ) (s : KeptSlot B) (h : IsLawfulSlot last_seq s)
    (seat moment : ℕ) where
  -- a creation is counted, and its queue is there
  module _ (key : ℤ) (off : is_live_kept s ≡ false) where
    kept : IsKeptPart (h.list ++ event.Made seat moment key ∷ []) (kept_makes s key seat moment)
    kept = makes_kept h.list s h.part key seat moment (rw (live_is h.list s h.part) at off)

    pub kept_makes_one_more : made_of (kept_makes s key seat moment) ≡ made_of s + 1
    kept_makes_one_more = made_more h.list s h.part (event.Made seat moment key) _ kept

    pub kept_makes_live : is_live_kept (kept_makes s key seat moment) ≡ true
    kept_makes_live = there_more h.list s h.part (event.Made seat moment key) _ kept

  -- a removal leaves no queue
  pub kept_removes_live : is_live_kept s ≡ true
      → is_live_kept (kept_removes s seat moment) ≡ false
  kept_removes_live live =
      there_more h.list s h.part (event.Removed seat moment) _
      (removes_kept h.list s h.part (rw (live_is h.list s h.part) at live) seat moment)
