-- What holds of the steps of any entries.
use Rattle.std.specs.Prelude.{◌≡◌, ◌++◌, map}
use Rattle.mq_trace.specs.Steps.{steps_of}
use Rattle.mq_trace.specs.declared.entries.SlotEntries.{SlotEntries}

-- each entry is a step once, in order, and nothing else is
abbrev pub EachEntryIsAStep : Type 0
EachEntryIsAStep =
    (slot : SlotEntries) → map (λ step. step.event) (steps_of slot) ≡ slot.past.now ++ slot.last.now
