-- A log of which nothing was drained, and the places of one of which something was.
use Rattle.std.proofs.Common.{◌≡◌, inl, ℕ, ◌+◌, slice_get, List, [], refl, ap, arith}
use Rattle.std.proofs.lemmas.Bool.{le-ltb}
use Rattle.mq_queue.specs.declared.event.Event.{Event}
use Rattle.mq_queue.specs.Base.{base_of, event_from}
use Rattle.mq_queue.specs.LawfulFrom.{LawfulFrom}
use Rattle.mq_queue.specs.Lawful.{Lawful}
use Rattle.mq_queue.proofs.Bases.{goes_on}

-- the event at a place that was not drained
pub event_at : (first : ℕ) (tail : List Event) (i : ℕ) → event_from first tail (first + i) ≡ slice_get tail i
event_at first tail i =
    rw (le-ltb (first + i) first (omega arith)) (ap (slice_get tail) (omega arith))

pub lawful_uncut : (tail : List Event) → LawfulFrom (base_of []) tail → Lawful tail
lawful_uncut tail lawful = (goes_on [] tail (record { lawful = inl refl; live = refl })).whole lawful
