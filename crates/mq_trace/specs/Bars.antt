-- The bars of a picture: each message from its sending to what became of it.
use Rattle.std.specs.Prelude.{ℕ, ◌+◌, ◌==◌, if◌then◌else◌, Option, Some, None, unwrap_or, List, [], ◌∷◌, ◌++◌, drop, map}
use Rattle.std.specs.List.{filter_map}
use Rattle.std.specs.Option.{option_map}
use Rattle.mq_message.specs.declared.header.Header.{Header}
use Rattle.mq_queue.specs.declared.base.Base.{Base}
use Rattle.mq_queue.specs.declared.event.Event.{Event}
use Rattle.mq_queue.specs.declared.event.Event.TheVariants.{Sent, Received, Removed}
use Rattle.mq_trace.specs.Found.{more}
use Rattle.mq_trace.specs.Steps.{steps_of}
use Rattle.mq_trace.specs.declared.entries.SlotEntries.{SlotEntries}
use Rattle.mq_trace.specs.declared.picture.ahead.Ahead.{Ahead}
use Rattle.mq_trace.specs.declared.picture.bars.Bar.{Bar}
use Rattle.mq_trace.specs.declared.picture.bars.Stamp.{Stamp}
use Rattle.mq_trace.specs.declared.picture.bars.Until.{Until}
use Rattle.mq_trace.specs.declared.picture.bars.Until.TheVariants as until
use Rattle.mq_trace.specs.declared.picture.scenes.Scene.{Scene}
use Rattle.mq_trace.specs.declared.step.Step.{Step}

-- whether the message with this place ceases to be pending at this event, whose position this is,
-- and how: by its receipt, or by the removal of its queue
abbrev pub end_of : ℕ → ℕ → Event → Option Until
end_of place entry (Received seat noerror moment received selection size) =
    if received == place
    then Some (until.Received seat (record { entry = entry; moment = moment }))
    else None
end_of place entry (Removed seat moment) =
    Some (until.Removed (record { entry = entry; moment = moment }))
end_of place entry _ = None

-- what becomes of the message with this place: the first of these events after which it is not
-- pending, of which the first is at this position, or it is pending after them all
abbrev pub until_of : ℕ → ℕ → List Event → Until
until_of place entry [] = until.Waiting
until_of place entry (event ∷ events) =
    unwrap_or (end_of place entry event) (until_of place (more entry 1) events)

-- the stamp of a sending
abbrev pub sent_stamp : ℕ → Event → Option Stamp
sent_stamp entry (Sent seat moment tag mtype n) = Some (record { entry = entry; moment = moment })
sent_stamp entry _ = None

-- the bar of a message that was sent then, or before these entries, by the entries from this
-- position on
abbrev pub bar_from : Option Stamp → ℕ → List Event → Header → Bar
bar_from sent entry events m =
    record { message = m; sent = sent; until = until_of m.place entry events }

-- the bar of the message that a step sends, where the step is a sending with this stamp
abbrev pub bar_by : Option Stamp → Step → List Event → Option Bar
bar_by None step events = None
bar_by (Some sent) step events =
    option_map (bar_from (Some sent) (more step.entry 1) events) step.message

-- the bar of the message that a step sends, if it sends one, by the entries after it
abbrev pub bar_of : Step → List Event → Option Bar
bar_of step events = bar_by (sent_stamp step.entry step.event) step events

-- a step, and the entries after it
pub record Sight : Type 0 where
  pub step : Step
  pub after : List Event

-- the entries that are still to come
abbrev pub to_come : Ahead → List Event
to_come a = a.past.now ++ a.last.now

-- what a scene is seen as
abbrev pub sight_of : Scene → Sight
sight_of scene = record { step = scene.step; after = to_come scene.ahead }

-- steps, each with the entries after it, where these are the entries from the first step on
abbrev pub sights_from : List Step → List Event → List Sight
sights_from [] events = []
sights_from (step ∷ steps) events =
    record { step = step; after = drop 1 events } ∷ sights_from steps (drop 1 events)

-- the same of a slot's entries
abbrev pub sights_of : SlotEntries → List Sight
sights_of s = sights_from (steps_of s) (s.past.now ++ s.last.now)

-- the messages that were pending where a log was drained
abbrev pub kept_messages : Option Base → List Header
kept_messages None = []
kept_messages (Some base) = base.waiting

-- the bars of what was pending where a slot's entries begin
abbrev pub kept_bars : SlotEntries → List Bar
kept_bars s =
    map (bar_from None s.first (s.past.now ++ s.last.now))
    (kept_messages (option_map (λ base. base.now) s.base))

-- the bars of a slot's entries: of what was pending where they begin, and then of each send
abbrev pub bars_of : SlotEntries → List Bar
bars_of s =
    kept_bars s ++ filter_map (λ sight. bar_of sight.step sight.after) (sights_of s)
