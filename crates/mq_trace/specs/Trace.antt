-- A trace: the records of all steps, and then those of the refused calls, one a line.
use Rattle.std.specs.Prelude.{ℕ, ℤ, Bool, true, false, List, [], ◌∷◌, ◌++◌, codes, map, Option}
use Rattle.std.specs.Prelude.{Some, None, if◌then◌else◌}
use Rattle.mq_queue.specs.Log.{key_told}
use Rattle.mq_queue.specs.declared.event.Event.{Event}
use Rattle.mq_queue.specs.declared.event.Event.TheVariants.{Changed}
use Rattle.mq_trace.specs.Records.{counter_record, event_record, process_record}
use Rattle.mq_trace.specs.Records.{refusal_record, refused_process}
use Rattle.mq_trace.specs.Steps.{steps_of}
use Rattle.mq_trace.specs.declared.entries.SlotEntries.{SlotEntries}
use Rattle.mq_trace.specs.declared.refusal.Refusal.{Refusal}
use Rattle.mq_trace.specs.declared.scale.TimeScale.{TimeScale}
use Rattle.mq_trace.specs.declared.step.Step.{Step}

-- a queue is named where it was created, and at the first step where it was created before that
abbrev pub name_records : Bool → ℕ → Option ℤ → List (List ℕ)
name_records first id (Some key) = process_record id (Some key) ∷ []
name_records first id None = if first then process_record id None ∷ [] else []

-- the counts of what is pending follow each step but a new quota
abbrev pub counter_records : TimeScale → Step → Event → List (List ℕ)
counter_records scale step (Changed seat moment qbytes) = []
counter_records scale step _ = counter_record scale step ∷ []

-- the records of a step
abbrev pub step_records : TimeScale → Bool → Step → List (List ℕ)
step_records scale first step =
    name_records first step.id (key_told step.event)
    ++ event_record scale step ∷ counter_records scale step step.event

-- the records of a slot's steps
abbrev pub slot_records : TimeScale → Bool → List Step → List (List ℕ)
slot_records scale first [] = []
slot_records scale first (step ∷ steps) =
    step_records scale first step ++ slot_records scale false steps

-- the records of the slots' entries, slot after slot
abbrev pub slots_records : TimeScale → List SlotEntries → List (List ℕ)
slots_records scale [] = []
slots_records scale (slot ∷ slots) =
    slot_records scale true (steps_of slot) ++ slots_records scale slots

-- the records of the refused calls, which are named where there is one
abbrev pub refusal_records : List Refusal → List (List ℕ)
refusal_records [] = []
refusal_records (r ∷ rs) = refused_process ∷ map refusal_record (r ∷ rs)

-- what stands before a record: a comma and a line's end, where it is not the first
abbrev pub separator : Bool → List ℕ
separator begun = if begun then codes ",\n" else []

-- whether there is a record, where there was one before or not
abbrev pub begun_after : Bool → List (List ℕ) → Bool
begun_after begun [] = begun
begun_after begun (record_text ∷ records) = true

-- records as they are written, where there was one before or not
abbrev pub listed : Bool → List (List ℕ) → List ℕ
listed begun [] = []
listed begun (record_text ∷ records) =
    separator begun ++ record_text ++ listed true records

-- what stands before the records, and after them
unfoldable pub trace_head : List ℕ
trace_head = codes "{\"displayTimeUnit\":\"ms\",\"traceEvents\":["

unfoldable pub trace_end : List ℕ
trace_end = codes "]}\n"

-- all records
abbrev pub records_of : List SlotEntries → List Refusal → TimeScale → List (List ℕ)
records_of slots refusals scale = slots_records scale slots ++ refusal_records refusals

-- the trace
abbrev pub trace_of : List SlotEntries → List Refusal → TimeScale → List ℕ
trace_of slots refusals scale =
    trace_head ++ listed false (records_of slots refusals scale) ++ trace_end
