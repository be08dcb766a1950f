use Rattle.std.proofs.Common.{◌≡◌, List, [], ◌∷◌, map, refl, ap}
use Rattle.mq_queue.specs.declared.event.Event.{Event}
use Rattle.mq_trace.specs.Steps.{Point, point_after, steps_from}

-- the steps of these entries have just these events
pub events_kept : (p : Point) (events : List Event) → map (λ step. step.event) (steps_from p events) ≡ events
events_kept p [] = refl
events_kept p (event ∷ events) = ap (λ (es : List Event). event ∷ es) (events_kept (point_after p event) events)
