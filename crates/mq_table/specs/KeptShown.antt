-- What a slot shows by the part that it keeps.
use Rattle.std.specs.Prelude.{ℕ, ◌+◌, ◌-◌, ◌==◌, nat_le, Bool, not, ◌&&◌, if◌then◌else◌, Option}
use Rattle.mq_queue.specs.declared.event.Event.{Event}
use Rattle.mq_queue.specs.declared.figures.BoardRow.{BoardRow}
use Rattle.mq_queue.specs.Base.{event_from}
use Rattle.mq_table.specs.Ids.{id_of}
use Rattle.mq_table.specs.Kept.{KeptSlot, is_live_kept, kept_figures, kept_of, made_of}
use Rattle.mq_table.specs.SlotList.{Standing, Never, Live, Removed}

-- what became of the id with this seq
abbrev pub standing_now : {B : Type 0} → KeptSlot B → ℕ → Standing
standing_now s seq =
    if nat_le (made_of s) seq then Never
    else (if is_live_kept s && (seq + 1 == made_of s) then Live else Removed)

-- whether a queue can be created in the slot: none is in it, and a seq up to last_seq is left
abbrev pub is_free_now : {B : Type 0} → ℕ → KeptSlot B → Bool
is_free_now last_seq s = not (is_live_kept s) && nat_le (made_of s) last_seq

-- what a report shows of the slot
abbrev pub row_now : {B : Type 0} → KeptSlot B → BoardRow
row_now s = record {
  made = made_of s;
  live = is_live_kept s;
  key = s.key;
  figures = kept_figures s;
}

-- the id of the slot's next queue
abbrev pub next_id_now : {B : Type 0} → KeptSlot B → ℕ
next_id_now s = id_of s.number (made_of s)

-- the id of the queue that was created last
abbrev pub last_id_now : {B : Type 0} → KeptSlot B → ℕ
last_id_now s = id_of s.number (made_of s - 1)

-- the event at this place of the whole list, where it is not drained
abbrev pub event_now : {B : Type 0} → KeptSlot B → ℕ → Option Event
event_now s i = event_from s.first (kept_of s) i
