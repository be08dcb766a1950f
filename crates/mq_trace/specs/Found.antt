-- The message at a place of a queue's log, whose beginning may be drained.
use Rattle.std.specs.Prelude.{ℕ, ◌+◌, ◌-◌, ◌==◌, ◌^◌, min, nat_lt, if◌then◌else◌, Option, Some}
use Rattle.std.specs.Prelude.{None, List, find, slice_get}
use Rattle.std.specs.Option.{option_and_then}
use Rattle.mq_message.specs.declared.header.Header.{Header}
use Rattle.mq_queue.specs.declared.base.Base.{Base}
use Rattle.mq_queue.specs.declared.event.Event.{Event}
use Rattle.mq_queue.specs.Waiting.{sent_at}

-- a sum as a u64 holds it: the greatest that it holds where the sum is greater
abbrev pub more : ℕ → ℕ → ℕ
more a b = min (a + b) (2 ^ 64 - 1)

-- how many events of a queue's log were drained
abbrev pub places_of : Option Base → ℕ
places_of None = 0
places_of (Some base) = base.places

-- the message at this place among those that were pending where the log was drained
abbrev pub kept_at : Option Base → ℕ → Option Header
kept_at None place = None
kept_at (Some base) place = find (λ m. m.place == place) base.waiting

-- the message at this place of the log: one that was pending where the log was drained, or one that
-- these events, since then, sent
abbrev pub message_at : Option Base → List Event → ℕ → Option Header
message_at base log place =
    if nat_lt place (places_of base) then kept_at base place
    else option_and_then (sent_at place) (slice_get log (place - places_of base))
