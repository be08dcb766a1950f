-- The entries of a slot's list, each with what it says of its queue.
use Rattle.std.specs.Prelude.{ℕ, ◌-◌, ◌^◌, min, if◌then◌else◌, Option, Some, None, List, [], ◌∷◌}
use Rattle.std.specs.Prelude.{◌++◌, length}
use Rattle.std.specs.Option.{option_map}
use Rattle.mq_message.specs.declared.header.Header.{Header}
use Rattle.mq_queue.specs.declared.base.Base.{Base}
use Rattle.mq_queue.specs.declared.event.Event.{Event}
use Rattle.mq_queue.specs.declared.event.Event.TheVariants.{Made, Sent, Received, Changed, Removed}
use Rattle.mq_queue.specs.Log.{is_made}
use Rattle.mq_queue.specs.Waiting.{sent_at}
use Rattle.mq_table.specs.Ids.{id_of}
use Rattle.mq_trace.specs.Found.{message_at, more, places_of}
use Rattle.mq_trace.specs.declared.counts.Counts.{Counts}
use Rattle.mq_trace.specs.declared.entries.SlotEntries.{SlotEntries}
use Rattle.mq_trace.specs.declared.step.Step.{Step}

-- what is known of a slot between two of its entries: its number, the position of the next entry,
-- how many queues were created, and of the last of these the base where its log's beginning was
-- drained, the events since then, and what is pending
pub record Point : Type 0 where
  pub slot : ℕ
  pub entry : ℕ
  pub made : ℕ
  pub base : Option Base
  pub log : List Event
  pub counts : Counts

-- nothing is pending
abbrev pub no_counts : Counts
no_counts = record { messages = 0; bytes = 0 }

-- what is pending after an event: one message more after a send, one less after the receipt of a
-- message that is known, and none after a creation or a removal
abbrev pub counts_after : Counts → Event → Option Header → Counts
counts_after c (Made seat moment key) message = no_counts
counts_after c (Sent seat moment tag mtype n) message =
    record { messages = more c.messages 1; bytes = more c.bytes n }
counts_after c (Received seat noerror moment place selection size) None = c
counts_after c (Received seat noerror moment place selection size) (Some m) =
    record { messages = c.messages - 1; bytes = c.bytes - m.length }
counts_after c (Changed seat moment qbytes) message = c
counts_after c (Removed seat moment) message = no_counts

-- the point at which a creation's own queue is the last one
abbrev pub entered : Point → Event → Point
entered p event =
    if is_made event then record p { made = more p.made 1; base = None; log = [] } else p

-- the place of the next event in its queue's log
abbrev pub place_of : Point → ℕ
place_of p = more (places_of p.base) (length p.log)

-- the message that an event sends or receives: a receipt's is the one at the place that it names
abbrev pub message_of : Point → Event → Option Header
message_of p (Received seat noerror moment place selection size) = message_at p.base p.log place
message_of p event = sent_at (place_of p) event

-- the id of the last queue, within a u32
abbrev pub id_at : Point → ℕ
id_at p = min (id_of p.slot (p.made - 1)) (2 ^ 32 - 1)

-- what is pending after the event
abbrev pub counts_at : Point → Event → Counts
counts_at p event = counts_after p.counts event (message_of p event)

-- what an event says, where its own queue is the last one
abbrev pub step_in : Point → Event → Step
step_in p event = record {
  entry = p.entry;
  id = id_at p;
  event = event;
  message = message_of p event;
  qnum = (counts_at p event).messages;
  cbytes = (counts_at p event).bytes;
}

-- the point after it
abbrev pub point_in : Point → Event → Point
point_in p event = record p {
  entry = more p.entry 1;
  log = p.log ++ event ∷ [];
  counts = counts_at p event;
}

-- what the next entry says, and the point after it
abbrev pub step_at : Point → Event → Step
step_at p event = step_in (entered p event) event

abbrev pub point_after : Point → Event → Point
point_after p event = point_in (entered p event) event

-- what these entries say, one after another
abbrev pub steps_from : Point → List Event → List Step
steps_from p [] = []
steps_from p (event ∷ events) = step_at p event ∷ steps_from (point_after p event) events

-- what was pending where a log was drained
abbrev pub counts_kept : Option Base → Counts
counts_kept None = no_counts
counts_kept (Some base) = record { messages = base.figures.qnum; bytes = base.figures.cbytes }

-- the point before the first of a slot's entries
abbrev pub first_point : SlotEntries → Point
first_point s = record {
  slot = s.slot;
  entry = s.first;
  made = s.made;
  base = option_map (λ base. base.now) s.base;
  log = [];
  counts = counts_kept (option_map (λ base. base.now) s.base);
}

-- what a slot's entries say
abbrev pub steps_of : SlotEntries → List Step
steps_of s = steps_from (first_point s) (s.past.now ++ s.last.now)
