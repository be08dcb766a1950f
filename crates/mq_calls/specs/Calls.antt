-- What msgsnd, msgrcv and msgctl return and leave (msgop(2), msgctl(2)).
use Rattle.std.specs.Prelude.{ℕ, ℤ, Bool, Result, Ok, Err}
use Rattle.mq_arena.specs.Text.{PlainText}
use Rattle.mq_message.specs.Selection.{selection_of}
use Rattle.mq_queue.specs.declared.figures.Figures.{Figures}
use Rattle.mq_table.specs.Cut.{CutState, cut_of, kept_cuts}
use Rattle.mq_table.specs.Ids.{slot_of}
use Rattle.mq_table.specs.Kept.{KeptSlot, entries_of, kept_figures}
use Rattle.mq_table.specs.KeptCalls.{kept_receives, kept_removes, kept_sends, kept_sets}
use Rattle.mq_table.specs.KeptCalls.{log_removed}
use Rattle.mq_table.specs.KeptShown.{last_id_now}
use Rattle.mq_table.specs.Keys.{forget}
pub use Rattle.mq_calls.specs.Answer.{delivered, delivers}
use Rattle.mq_calls.specs.Answer.{once, send}
use Rattle.mq_calls.specs.Look.{Answer, in_queue, look}
use Rattle.mq_calls.specs.State.{QueuesState, slot_at, with_slot}
use Rattle.mq_calls.specs.Texts.{bytes_of, spends_all}
use Rattle.mq_calls.specs.declared.errno.Errno.{Errno}
use Rattle.mq_calls.specs.declared.results.Delivered.{Delivered}
use Rattle.mq_calls.specs.declared.results.Refused.{Refused}
use Rattle.mq_calls.specs.declared.results.Removal.{Removal}

-- msgsnd (msgop(2), msgsnd)
abbrev pub msgsnd : QueuesState → ℕ → ℕ → ℤ → ℕ → PlainText → ℕ → Answer ℕ
msgsnd s seat id mtype tag text moment =
    send mtype (in_queue s id (λ slot. kept_sends bytes_of slot
    (record { mtype = mtype; sender = seat; tag = tag; body = text }) moment))

-- msgrcv (msgop(2), msgrcv)
abbrev pub msgrcv : QueuesState → ℕ → ℕ → ℕ → ℤ → Bool → Bool → ℕ → Answer (Delivered PlainText)
msgrcv s seat id size mtype except noerror moment = in_queue s id (λ slot.
    delivers slot.messages size (entries_of slot)
    (kept_receives slot size (selection_of mtype except) noerror seat moment))

-- IPC_SET: the quota is set (msgctl(2), IPC_SET)
abbrev pub set : QueuesState → ℕ → ℕ → ℕ → ℕ → Answer ℕ
set s seat id qbytes moment = in_queue s id (λ slot. kept_sets slot qbytes seat moment)

-- the queue leaves its slot, its key is forgotten, and the blocks of its pending messages are freed
abbrev pub removed : QueuesState → ℕ → ℕ → ℕ → Removal × QueuesState
removed s k seat moment =
    let slot = slot_at s k in (
      record { entry = entries_of slot; log = log_removed slot seat moment },
      record (with_slot s k (kept_removes slot seat moment)) {
        arena = spends_all slot.messages s.arena;
        keys = forget (last_id_now slot) s.keys;
      },
    )

-- IPC_RMID: the queue is removed (msgctl(2), IPC_RMID)
abbrev pub rmid : QueuesState → ℕ → ℕ → ℕ → Answer Removal
rmid s seat id moment = once (look s id) (Ok (removed s (slot_of id) seat moment))

-- the figures of a slot's queue, unless the id is refused
abbrev pub figures_shown : KeptSlot PlainText → Result (Unit {0}) Refused → Result Figures Errno
figures_shown slot (Ok _) = Ok (kept_figures slot)
figures_shown slot (Err refused) = Err refused.errno

-- IPC_STAT: what is shown of an id's queue (msgctl(2), IPC_STAT)
abbrev pub stat : QueuesState → ℕ → Result Figures Errno
stat s id = figures_shown (slot_at s (slot_of id)) (look s id)

-- a slot's list is drained: what is returned, and what is left
abbrev pub cut_log : QueuesState → ℕ → CutState × QueuesState
cut_log s k = let slot = slot_at s k in (cut_of slot, with_slot s k (kept_cuts slot))
