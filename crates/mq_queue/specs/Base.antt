-- A log whose beginning is drained: its base, and what the base and the events since then leave.
use Rattle.std.specs.Prelude.{ℕ, ◌+◌, ◌-◌, nat_lt, not, if◌then◌else◌, Option, None}
use Rattle.std.specs.Prelude.{List, ◌++◌, length, filter, slice_get}
use Rattle.mq_message.specs.declared.header.Header.{Header}
use Rattle.mq_queue.specs.declared.base.Base.{Base}
use Rattle.mq_queue.specs.declared.event.Event.{Event}
use Rattle.mq_queue.specs.declared.figures.Figures.{Figures}
use Rattle.mq_queue.specs.Figures.{figures, no_figures, change_told}
use Rattle.mq_queue.specs.Figures.{sender_told, sending_told, receiver_told, receipt_told}
use Rattle.mq_queue.specs.Log.{ends_with_removed, last_told}
use Rattle.mq_queue.specs.Room.{bytes_waiting, qbytes_told}
use Rattle.mq_queue.specs.Waiting.{is_received, sent_from, waiting}

-- the base of a log that is drained: how many events it has, its figures and its pending messages
abbrev pub base_of : List Event → Base
base_of log = record { places = length log; figures = figures log; waiting = waiting log }

-- the pending messages: those of the base and those sent since, but for what these events receive
abbrev pub waiting_from : Base → List Event → List Header
waiting_from base tail =
    filter (λ m. not (is_received tail m)) (base.waiting ++ sent_from base.places tail)

-- the quota: how many bytes may be pending, and how many messages
abbrev pub quota_from : Base → List Event → ℕ
quota_from base tail = last_told qbytes_told base.figures.qbytes tail

-- the figures of a queue that is not removed: where these events state none, those of the base
abbrev pub live_figures_from : Base → List Event → Figures
live_figures_from base tail = record {
  qnum = length (waiting_from base tail);
  cbytes = bytes_waiting (waiting_from base tail);
  qbytes = quota_from base tail;
  stime = last_told sending_told base.figures.stime tail;
  rtime = last_told receipt_told base.figures.rtime tail;
  ctime = last_told change_told base.figures.ctime tail;
  lspid = last_told sender_told base.figures.lspid tail;
  lrpid = last_told receiver_told base.figures.lrpid tail;
}

-- the figures of a queue, all 0 once it is removed
abbrev pub figures_from : Base → List Event → Figures
figures_from base tail = if ends_with_removed tail then no_figures else live_figures_from base tail

-- the base once these events are drained too
abbrev pub base_after : Base → List Event → Base
base_after base tail = record {
  places = base.places + length tail;
  figures = figures_from base tail;
  waiting = waiting_from base tail;
}

-- the event at this place, where it is not drained
abbrev pub event_from : ℕ → List Event → ℕ → Option Event
event_from first tail i = if nat_lt i first then None else slice_get tail (i - first)
