-- The commands of msgctl(2), and what those answer that only show.
use Rattle.std.specs.Prelude.{ℕ, ◌-◌, ◌==◌, nat_lt, ◌||◌, if◌then◌else◌, length}
use Rattle.std.specs.Prelude.{Option, Some, None, Result, Ok, Err}
use Rattle.mq_queue.specs.declared.figures.BoardRow.{BoardRow}
use Rattle.mq_queue.specs.declared.figures.Figures.{Figures}
use Rattle.mq_table.specs.Ids.{id_of, slot_of}
use Rattle.mq_table.specs.KeptShown.{row_now}
use Rattle.mq_calls.specs.State.{QueuesState, slot_at}
use Rattle.mq_calls.specs.Usages.{usage_of}
use Rattle.mq_calls.specs.declared.errno.Errno.{Errno}
use Rattle.mq_calls.specs.declared.errno.Errno.TheVariants.{EINVAL}
use Rattle.mq_face.specs.Refusals.{fault, gone, refusal}
use Rattle.mq_face.specs.declared.answer.Done.{Done}
use Rattle.mq_face.specs.declared.answer.ControlShown.{ControlShown}
use Rattle.mq_face.specs.declared.answer.ControlShown.TheVariants as shown
use Rattle.mq_face.specs.declared.call.Call.{Call}
use Rattle.mq_face.specs.declared.command.ControlCommand.{ControlCommand}
use Rattle.mq_face.specs.declared.command.ControlCommand.TheVariants.{Remove, Set, Stat, StatSlot}
use Rattle.mq_face.specs.declared.command.ControlCommand.TheVariants.{Info}
use Rattle.mq_face.specs.declared.manual.TheConstants.{EFAULT, IPC_INFO, IPC_RMID, IPC_SET}
use Rattle.mq_face.specs.declared.manual.TheConstants.{IPC_STAT, MSG_INFO, MSG_STAT, MSG_STAT_ANY}
use Rattle.mq_face.specs.declared.refusal.Refusal.{Refusal}

-- the command that has this number (msgctl(2))
abbrev pub command_of : ℕ → Option ControlCommand
command_of n =
    if n == IPC_RMID then Some Remove
    else (if n == IPC_SET then Some Set
    else (if n == IPC_STAT then Some Stat
    else (if (n == IPC_INFO) || (n == MSG_INFO) then Some Info
    else (if (n == MSG_STAT) || (n == MSG_STAT_ANY) then Some StatSlot else None))))

-- what is shown, where there is a buffer for it (msgctl(2), EFAULT)
abbrev pub show : Call → ℕ → ℕ → ControlShown → Result Done Refusal
show call value slot shown =
    if call.buffer then Ok (record { value = value; slot = slot; entry = None; shown = shown })
    else Err (fault EFAULT)

-- IPC_STAT (msgctl(2), IPC_STAT)
abbrev pub stat_reply : Call → ℕ → Result Figures Errno → Result Done Refusal
stat_reply call id (Ok figures) = show call 0 (slot_of id) (shown.Queue figures)
stat_reply call id (Err errno) = Err (gone call errno)

-- the queue in a slot, by which the call returns its id (msgctl(2), MSG_STAT)
abbrev pub row_reply : Call → ℕ → BoardRow → Result Done Refusal
row_reply call slot row =
    if row.live then show call (id_of slot (row.made - 1)) slot (shown.Queue row.figures)
    else Err (refusal EINVAL)

abbrev pub slot_reply : QueuesState → Call → ℕ → Result Done Refusal
slot_reply s call slot =
    if nat_lt slot (length s.slots) then row_reply call slot (row_now (slot_at s slot))
    else Err (refusal EINVAL)

-- all queues together; the call returns the greatest slot in use (msgctl(2), IPC_INFO)
abbrev pub info_reply : QueuesState → Call → Result Done Refusal
info_reply s call = show call (usage_of s).greatest 0 (shown.Usage (usage_of s))
