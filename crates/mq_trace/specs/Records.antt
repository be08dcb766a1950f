-- The records of a trace, as the Trace Event Format has them: each is a JSON object. Their text is
-- numbers and fixed words, so none of it is escaped.
use Rattle.std.specs.Prelude.{ℕ, ℤ, ◌+◌, List, [], ◌++◌, codes, Option, Some, None}
use Rattle.std.specs.Fmt.{decimal, signed_decimal}
use Rattle.std.specs.Option.{option_map_or}
use Rattle.mq_message.specs.Shown.{selection_text}
use Rattle.mq_message.specs.declared.header.Header.{Header}
use Rattle.mq_message.specs.declared.selection.Selection.{Selection}
use Rattle.mq_queue.specs.Shown.{bool_text}
use Rattle.mq_queue.specs.declared.event.Event.{Event}
use Rattle.mq_queue.specs.declared.event.Event.TheVariants.{Made, Sent, Received, Changed, Removed}
use Rattle.std.specs.Prelude.{Bool}
use Rattle.mq_calls.specs.Names.{errno_name}
use Rattle.mq_trace.specs.Calls.{call_name}
use Rattle.mq_trace.specs.declared.refusal.Refusal.{Refusal}
use Rattle.mq_trace.specs.declared.scale.TimeScale.{TimeScale}
use Rattle.mq_trace.specs.declared.scale.TimeScale.TheVariants.{Moments, Lines, Entries}
use Rattle.mq_trace.specs.declared.step.Step.{Step}

-- the seat that called
abbrev pub seat_of : Event → ℕ
seat_of (Made seat moment key) = seat
seat_of (Sent seat moment tag mtype n) = seat
seat_of (Received seat noerror moment place selection size) = seat
seat_of (Changed seat moment qbytes) = seat
seat_of (Removed seat moment) = seat

-- the moment that the caller named
abbrev pub moment_of : Event → ℕ
moment_of (Made seat moment key) = moment
moment_of (Sent seat moment tag mtype n) = moment
moment_of (Received seat noerror moment place selection size) = moment
moment_of (Changed seat moment qbytes) = moment
moment_of (Removed seat moment) = moment

-- the time of a step
abbrev pub time_of : TimeScale → Step → ℕ
time_of Moments step = moment_of step.event
time_of Lines step = moment_of step.event
time_of Entries step = step.entry

-- the queue as a process, the seat as a thread, and the time
unfoldable pub stamp : ℕ → ℕ → ℕ → List ℕ
stamp id seat time =
    codes ",\"pid\":" ++ decimal (id + 1) ++ codes ",\"tid\":" ++ decimal seat ++ codes ",\"ts\":"
    ++ decimal time

-- the name of a process: of a queue its id, and its key where that is known
abbrev pub key_name : Option ℤ → List ℕ
key_name None = []
key_name (Some key) = codes " key " ++ signed_decimal key

unfoldable pub process_record : ℕ → Option ℤ → List ℕ
process_record id key =
    codes "{\"ph\":\"M\",\"name\":\"process_name\",\"pid\":" ++ decimal (id + 1)
    ++ codes ",\"args\":{\"name\":\"queue " ++ decimal id ++ key_name key ++ codes "\"}}"

-- an instant, up to its process
unfoldable pub instant_head : List ℕ → List ℕ
instant_head name = codes "{\"ph\":\"i\",\"s\":\"p\",\"name\":\"" ++ name ++ codes "\""

-- the name of a message
abbrev pub message_name : Option Header → List ℕ
message_name None = codes "unknown"
message_name (Some m) = codes "type " ++ signed_decimal m.mtype

-- where a message begins or ceases to be pending, up to its process
unfoldable pub slice_head : List ℕ → ℕ → ℕ → Option Header → List ℕ
slice_head ph id place message =
    codes "{\"ph\":\"" ++ ph ++ codes "\",\"cat\":\"message\",\"id\":\"" ++ decimal id ++ codes "."
    ++ decimal place ++ codes "\",\"name\":\"" ++ message_name message ++ codes "\""

-- the record of an event, up to its process
abbrev pub event_head : ℕ → Event → Option Header → List ℕ
event_head id (Made seat moment key) message = instant_head (codes "made")
event_head id (Sent seat moment tag mtype n) message =
    slice_head (codes "b") id (option_map_or (λ m. m.place) message 0) message
event_head id (Received seat noerror moment place selection size) message =
    slice_head (codes "e") id place message
event_head id (Changed seat moment qbytes) message = instant_head (codes "quota")
event_head id (Removed seat moment) message = instant_head (codes "removed")

-- what each event states
unfoldable pub args_head : ℕ → ℕ → List ℕ
args_head entry seat =
    codes ",\"args\":{\"entry\":" ++ decimal entry ++ codes ",\"seat\":" ++ decimal seat

-- what a receipt asked for
unfoldable pub receipt_args : ℕ → ℕ → Bool → Selection → List ℕ
receipt_args place size noerror selection =
    codes ",\"place\":" ++ decimal place ++ codes ",\"size\":" ++ decimal size
    ++ codes ",\"noerror\":" ++ bool_text noerror ++ codes ",\"selection\":\""
    ++ selection_text selection ++ codes "\""

-- what an event states beside its entry and its seat
abbrev pub event_args : Event → List ℕ
event_args (Made seat moment key) = codes ",\"key\":" ++ signed_decimal key
event_args (Sent seat moment tag mtype n) =
    codes ",\"length\":" ++ decimal n ++ codes ",\"tag\":" ++ decimal tag
event_args (Received seat noerror moment place selection size) =
    receipt_args place size noerror selection
event_args (Changed seat moment qbytes) = codes ",\"qbytes\":" ++ decimal qbytes
event_args (Removed seat moment) = []

-- the record of an event
unfoldable pub event_record : TimeScale → Step → List ℕ
event_record scale step =
    event_head step.id step.event step.message
    ++ stamp step.id (seat_of step.event) (time_of scale step)
    ++ args_head step.entry (seat_of step.event) ++ event_args step.event ++ codes "}}"

-- how many messages and bytes are pending after a step
unfoldable pub counter_record : TimeScale → Step → List ℕ
counter_record scale step =
    codes "{\"ph\":\"C\",\"name\":\"waiting\",\"pid\":" ++ decimal (step.id + 1)
    ++ codes ",\"ts\":" ++ decimal (time_of scale step) ++ codes ",\"args\":{\"messages\":"
    ++ decimal step.qnum ++ codes ",\"bytes\":" ++ decimal step.cbytes ++ codes "}}"

-- the name of the process of the refused calls
unfoldable pub refused_process : List ℕ
refused_process =
    codes "{\"ph\":\"M\",\"name\":\"process_name\",\"pid\":0,\"args\":{\"name\":"
    ++ codes "\"refused calls\"}}"

-- the id that a refused call named, if it named one
abbrev pub id_arg : Option ℕ → List ℕ
id_arg None = []
id_arg (Some id) = codes ",\"id\":" ++ decimal id

-- when and by whom a refused call was made
unfoldable pub refusal_stamp : ℕ → ℕ → List ℕ
refusal_stamp seat moment =
    codes ",\"pid\":0,\"tid\":" ++ decimal seat ++ codes ",\"ts\":" ++ decimal moment

-- what it asked for
unfoldable pub refusal_args : Refusal → List ℕ
refusal_args r =
    codes ",\"args\":{\"call\":\"" ++ call_name r.call ++ codes "\"" ++ id_arg r.id
    ++ codes ",\"seat\":" ++ decimal r.seat ++ codes "}}"

-- the record of a refused call, at its moment
unfoldable pub refusal_record : Refusal → List ℕ
refusal_record r =
    instant_head (errno_name r.errno) ++ refusal_stamp r.seat r.moment ++ refusal_args r
