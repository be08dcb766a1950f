-- Entries that are passed one after another.
use Rattle.std.specs.Prelude.{ℕ, ◌<◌, List, [], ◌∷◌, ◌++◌, length, slice_get}
use Rattle.std.specs.Option.{option_map_or}
use Rattle.mq_message.specs.declared.header.Header.{Header}
use Rattle.mq_queue.specs.declared.event.Event.{Event}
use Rattle.mq_trace.specs.Steps.{Point}

-- the entries of the last queue that were passed, and those that are still to come
pub record Trail : Type 0 where
  pub log : List Event
  pub rest : List Event

-- the next entry is passed, if there is one
abbrev pub passed : List Event → List Event → Trail
passed log [] = record { log = log; rest = [] }
passed log (event ∷ rest) = record { log = log ++ event ∷ []; rest = rest }

-- those of the last queue are left behind
abbrev pub left_behind : Trail → Trail
left_behind t = record { log = []; rest = t.rest }

-- what is known before the next entry, and the entries from there on
pub record Walk : Type 0 where
  pub at : Point
  pub rest : List Event

-- the place of a message in the list, or 0 past the list's end
abbrev pub place_in : List Header → ℕ → ℕ
place_in headers i = option_map_or (λ m. m.place) (slice_get headers i) 0

-- each message has a greater place than those before it, of the first n
abbrev pub IsAscendingTo : ℕ → List Header → Type 0
IsAscendingTo n headers = (i j : ℕ) → i < j → j < n → place_in headers i < place_in headers j

-- the same of all
abbrev pub IsAscending : List Header → Type 0
IsAscending headers = IsAscendingTo (length headers) headers
