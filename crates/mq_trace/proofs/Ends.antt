use Rattle.std.specs.Prelude.{Option, Some, None}
use Rattle.std.proofs.Common.{◌≡◌, ℕ, List, [], ◌∷◌, arith, slice_get}
use Rattle.mq_queue.specs.declared.event.Event.{Event}
use Rattle.mq_trace.specs.Bars.{end_of, until_of}
use Rattle.mq_trace.specs.declared.picture.bars.Until.{Until}
use Rattle.mq_trace.specs.declared.picture.bars.Until.TheVariants.{Waiting}

-- the first event is the message's end
pub until_found : (place at : ℕ) (events : List Event) (event : Event) (found : Until) → slice_get events 0 ≡ Some event → end_of place at event ≡ Some found → until_of place at events ≡ found
until_found place at [] event found first ends = grind arith
until_found place at (x ∷ xs) event found first ends = grind arith

-- there is no event
pub until_waits : (place at : ℕ) (events : List Event) → slice_get events 0 ≡ None → until_of place at events ≡ Waiting
until_waits place at [] first = grind arith
until_waits place at (x ∷ xs) first = grind arith
