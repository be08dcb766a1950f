-- What is shown of a slot's queue, and of all slots together.
use Rattle.std.specs.Prelude.{ℕ, ◌^◌, if◌then◌else◌, List, Result, Ok, Err}
use Rattle.mq_queue.specs.Figures.{figures}
use Rattle.mq_queue.specs.Row.{last_log, row}
use Rattle.mq_queue.specs.declared.event.Event.{Event}
use Rattle.mq_queue.specs.declared.figures.Figures.{Figures}
use Rattle.mq_table.specs.Ids.{seq_of}
use Rattle.mq_table.specs.SlotList.{Standing, Never, Live, Removed, standing}
use Rattle.mq_table.specs.declared.refusal.IdRefusal.TheVariants as refusal
use Rattle.mq_table.specs.declared.refusal.IdRefusal.{IdRefusal}
use Rattle.mq_calls.specs.Look.{errno_of_id}
use Rattle.mq_calls.specs.Usages.{no_usage, usage_to}
use Rattle.mq_calls.specs.declared.errno.Errno.TheVariants.{EINVAL}
use Rattle.mq_calls.specs.declared.errno.Errno.{Errno}
use Rattle.mq_calls.specs.declared.usage.Usage.{Usage}
use Rattle.mq_system.specs.Refusals.{out_of_slots}
use Rattle.mq_system.specs.Seat.{SeatState, front_of}

-- the figures of the queue that an id names, or why there are none (msgctl(2), IPC_STAT)
abbrev pub figures_by : Standing → Figures → Result Figures IdRefusal
figures_by Never figures = Err refusal.Never
figures_by Live figures = Ok figures
figures_by Removed figures = Err refusal.Removed

-- the same, after these events, of the id with this seq
abbrev pub stat_answer : List Event → ℕ → Result Figures IdRefusal
stat_answer events seq = figures_by (standing events seq) (figures (last_log events))

-- the figures, or the manual's name of the refusal
abbrev pub figures_or_errno : Result Figures IdRefusal → Result Figures Errno
figures_or_errno (Ok figures) = Ok figures
figures_or_errno (Err refusal) = Err (errno_of_id refusal)

-- IPC_STAT after these events of the id's slot, where there are so many slots
abbrev pub stat_of : ℕ → List Event → ℕ → Result Figures Errno
stat_of slots events id =
    if out_of_slots slots id then Err EINVAL else figures_or_errno (stat_answer events (seq_of id))

-- what is in use in the first slots, of so many slots and pages, as a seat knows them (msgctl(2),
-- IPC_INFO)
abbrev pub known_usage : ℕ → ℕ → SeatState → ℕ → Usage
known_usage slots height seat =
    usage_to (no_usage slots (2 ^ height)) (λ slot. row (front_of seat slot))
