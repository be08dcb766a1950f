-- What a call of a slot's queue leaves as it was.
use Rattle.std.proofs.Common.{◌≡◌, ℕ, false, List, [], ◌∷◌, ◌++◌, Option, None, Some, Ok, refl, ◌∙◌}
use Rattle.std.proofs.lemmas.List.Sums.{fold-append}
use Rattle.std.proofs.lemmas.Result.{IfOk-at_ok}
use Rattle.mq_queue.specs.declared.error.QueueError.{QueueError}
use Rattle.mq_queue.specs.declared.event.Event.{Event}
use Rattle.mq_queue.specs.Log.{is_made}
use Rattle.mq_queue.specs.Row.{log_after, last_log}
use Rattle.mq_table.specs.Calls.{changed_unless}
use Rattle.mq_table.specs.Slot.{SlotState}

-- an event that is no creation is appended to the last log
pub grows : (events : List Event) (e : Event) → is_made e ≡ false
    → last_log (events ++ e ∷ []) ≡ last_log events ++ e ∷ []
grows events e none = fold-append log_after [] events (e ∷ []) ∙ rw none refl

-- what is left where a call is not refused
pub left_is : {B : Type 0} (o : Option QueueError) (s after t : SlotState B) (n : ℕ)
    → changed_unless o s after ≡ Ok (n, t) → after ≡ t
left_is None s after t n e = IfOk-at_ok (λ turn. after ≡ turn.1) e refl
left_is (Some refusal) s after t n e = cc
