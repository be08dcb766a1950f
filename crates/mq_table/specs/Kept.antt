-- A slot of whose list the first entries may be drained: what it keeps, and what that says.
use Rattle.std.specs.Prelude.{ℕ, ℤ, ◌+◌, ◌-◌, Bool, not, Option, unwrap_or, is_some}
use Rattle.std.specs.Prelude.{List, [], ◌∷◌, ◌++◌, fold, length}
use Rattle.mq_message.specs.declared.message.Message.{Message}
use Rattle.mq_message.specs.declared.header.Header.{Header}
use Rattle.mq_queue.specs.declared.base.Base.{Base}
use Rattle.mq_queue.specs.declared.event.Event.{Event}
use Rattle.mq_queue.specs.declared.figures.Figures.{Figures}
use Rattle.mq_queue.specs.Base.{base_of, figures_from, quota_from, waiting_from}
use Rattle.mq_queue.specs.Log.{is_removed}
use Rattle.mq_queue.specs.Row.{made_count}

-- a slot: its number, how many entries were drained, how many of these are Made, the key of the
-- queue that is in it, the base of the queue that the drained entries leave in it, the kept entries
-- of queues since removed, those of the queue that is in it, and its pending messages
pub record KeptSlot (B : Type 0) : Type 0 where
  pub number : ℕ
  pub first : ℕ
  pub made : ℕ
  pub key : ℤ
  pub base : Option Base
  pub past : List Event
  pub last : List Event
  pub messages : List (ℕ × Message B)

-- the kept entries
abbrev pub kept_of : {B : Type 0} → KeptSlot B → List Event
kept_of s = s.past ++ s.last

-- how many entries the whole list has
abbrev pub entries_of : {B : Type 0} → KeptSlot B → ℕ
entries_of s = s.first + length (kept_of s)

-- how many queues were created
abbrev pub made_of : {B : Type 0} → KeptSlot B → ℕ
made_of s = s.made + made_count (kept_of s)

-- whether a queue is there after these entries, where one was there before or not
abbrev pub live_from : Bool → List Event → Bool
live_from before entries = fold (λ _ e. not (is_removed e)) before entries

-- whether a queue is in the slot
abbrev pub is_live_kept : {B : Type 0} → KeptSlot B → Bool
is_live_kept s = live_from (is_some s.base) (kept_of s)

-- the base of the queue that is in a slot: the slot's own, where no entry of a queue since removed
-- is kept, and else that of no event
abbrev pub queue_base : Option Base → List Event → Base
queue_base base [] = unwrap_or base (base_of [])
queue_base base (e ∷ es) = base_of []

-- the base of the queue that is in the slot
abbrev pub base_now : {B : Type 0} → KeptSlot B → Base
base_now s = queue_base s.base s.past

-- how many events the log of that queue has
abbrev pub places_now : {B : Type 0} → KeptSlot B → ℕ
places_now s = (base_now s).places + length s.last

-- how many entries are before that log
abbrev pub offset_now : {B : Type 0} → KeptSlot B → ℕ
offset_now s = entries_of s - places_now s

-- the pending messages of that queue
abbrev pub waiting_now : {B : Type 0} → KeptSlot B → List Header
waiting_now s = waiting_from (base_now s) s.last

-- its quota
abbrev pub quota_now : {B : Type 0} → KeptSlot B → ℕ
quota_now s = quota_from (base_now s) s.last

-- its figures, all 0 where no queue is
abbrev pub kept_figures : {B : Type 0} → KeptSlot B → Figures
kept_figures s = figures_from (base_now s) s.last
