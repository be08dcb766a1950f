-- What a slot's row shows: a slot has one queue after another, and its events are all that happened
-- in it (msgctl(2), IPC_STAT).
use Rattle.std.specs.Prelude.{ℕ, ℤ, pos, Bool, not, ◌&&◌, if◌then◌else◌, List, [], ◌∷◌, ◌++◌, fold, count_by}
use Rattle.mq_queue.specs.declared.event.Event.{Event}
use Rattle.mq_queue.specs.declared.figures.BoardRow.{BoardRow}
use Rattle.mq_queue.specs.declared.figures.Figures.{Figures}
use Rattle.mq_queue.specs.Figures.{figures, no_figures}
use Rattle.mq_queue.specs.Log.{is_empty, is_made, ends_with_removed, made_key}

-- how many queues were created in the slot
abbrev pub made_count : List Event → ℕ
made_count events = count_by is_made events

-- whether a queue is in the slot now: one was created, and it was not removed
abbrev pub is_live : List Event → Bool
is_live events = not (is_empty events) && not (ends_with_removed events)

-- the log after one more event: a creation begins a new one
abbrev pub log_after : List Event → Event → List Event
log_after log event = if is_made event then event ∷ [] else log ++ event ∷ []

-- the log of the queue that was created last
abbrev pub last_log : List Event → List Event
last_log events = fold log_after [] events

-- the key of the queue that is in a slot now, or 0 where none is
abbrev pub live_key : List Event → ℤ
live_key events = if is_live events then made_key (last_log events) else pos 0

-- the figures of the queue that is in a slot now, or all 0 where none is
abbrev pub slot_figures : List Event → Figures
slot_figures events = if is_live events then figures (last_log events) else no_figures

-- what a report shows of a slot
abbrev pub row : List Event → BoardRow
row events = record {
  made = made_count events;
  live = is_live events;
  key = live_key events;
  figures = slot_figures events;
}
