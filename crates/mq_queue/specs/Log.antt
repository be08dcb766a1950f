-- The log of a queue: its events, each at its place, from 0.
use Rattle.std.specs.Prelude.{ℤ, pos, Bool, true, false, Option, Some, None, unwrap_or, List, [], ◌∷◌, fold}
use Rattle.mq_queue.specs.declared.event.Event.{Event}
use Rattle.mq_queue.specs.declared.event.Event.TheVariants.{Made, Removed}

-- whether a log has no event
abbrev pub is_empty : List Event → Bool
is_empty [] = true
is_empty (event ∷ events) = false

-- whether an event is the creation of its queue
abbrev pub is_made : Event → Bool
is_made (Made seat moment key) = true
is_made _ = false

-- whether an event is the removal of its queue
abbrev pub is_removed : Event → Bool
is_removed (Removed seat moment) = true
is_removed _ = false

-- whether the queue was removed, as the last event says
abbrev pub ends_with_removed : List Event → Bool
ends_with_removed log = fold (λ _ event. is_removed event) false log

-- the value of the last event that states one, or `first` where none does
abbrev pub last_told : {X : Type 0} → (Event → Option X) → X → List Event → X
last_told told first log = fold (λ before event. unwrap_or (told event) before) first log

-- the key that an event states, if it is a creation
abbrev pub key_told : Event → Option ℤ
key_told (Made seat moment key) = Some key
key_told _ = None

-- the key that a queue was created with
abbrev pub made_key : List Event → ℤ
made_key log = last_told key_told (pos 0) log
