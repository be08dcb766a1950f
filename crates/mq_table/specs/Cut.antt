-- A slot's list is drained: what is returned, and what is left.
use Rattle.std.specs.Prelude.{◌≡◌, ℕ, ◌-◌, ◌≤◌, if◌then◌else◌, Option, Some, None}
use Rattle.std.specs.Prelude.{List, [], ◌++◌, length, take, drop}
use Rattle.mq_queue.specs.declared.base.Base.{Base}
use Rattle.mq_queue.specs.declared.event.Event.{Event}
use Rattle.mq_queue.specs.Base.{base_after}
use Rattle.mq_queue.specs.Queue.{Queue}
use Rattle.mq_queue.specs.Row.{made_count}
use Rattle.mq_table.specs.declared.cut.Cut.{Cut}
use Rattle.mq_table.specs.Kept.{KeptSlot, base_now, entries_of, is_live_kept, made_of}
use Rattle.mq_table.specs.KeptPart.{base_at}
use Rattle.mq_table.specs.SlotList.{offset}

-- what a drain returns: how many entries were drained before, how many of these are Made, the base
-- of the queue that they leave, the entries of queues since removed, and those of the live queue
pub record CutState : Type 0 where
  pub first : ℕ
  pub made : ℕ
  pub base : Option Base
  pub past : List Event
  pub last : List Event

-- a `Cut`, with its lists
abbrev pub cut_shown : Cut → CutState
cut_shown c = record {
  first = c.first;
  made = c.made;
  base = c.base;
  past = c.past.items;
  last = c.last.items;
}

-- what a drain of this slot returns
abbrev pub cut_of : {B : Type 0} → KeptSlot B → CutState
cut_of s = record {
  first = s.first;
  made = s.made;
  base = s.base;
  past = s.past;
  last = s.last;
}

-- the base of the queue that is in the slot, once its log is drained, or none where none is
abbrev pub base_left : {B : Type 0} → KeptSlot B → Option Base
base_left s = if is_live_kept s then Some (base_after (base_now s) s.last) else None

-- the slot once its list was drained
abbrev pub kept_cuts : {B : Type 0} → KeptSlot B → KeptSlot B
kept_cuts s = record s {
  first = entries_of s;
  made = made_of s;
  base = base_left s;
  past = [];
  last = [];
}

-- the queue that is there, once its log was drained
abbrev pub cut_queue : {B : Type 0} → Option (Queue B) → Option (Queue B)
cut_queue None = None
cut_queue (Some queue) =
    Some (record queue { base = base_after queue.base queue.tail; tail = [] })

-- a drain of this list: its entries are those from `first` to the end, its base and its number of
-- Made are those of the entries before, and its last part is of the live queue
pub record IsCutOf (list : List Event) (c : CutState) : Type 0 where
  pub within : c.first ≤ length list
  pub entries : c.past ++ c.last ≡ drop c.first list
  pub made : c.made ≡ made_count (take c.first list)
  pub base : c.base ≡ base_at (take c.first list)
  pub past : length c.past ≡ offset list - c.first
