-- What a call of a slot answers and leaves, under the slot's lock (msgop(2), msgctl(2)).
use Rattle.std.specs.Prelude.{ℕ, ℤ, if◌then◌else◌, ◌&&◌, Bool, length, Option, None, Some}
use Rattle.std.specs.Prelude.{Result, Ok}
use Rattle.std.specs.Ordering.{int_eq}
use Rattle.mq_arena.specs.Text.{PlainText}
use Rattle.mq_message.specs.declared.message.Message.{Message}
use Rattle.mq_queue.specs.Memory.{or_memory}
use Rattle.mq_queue.specs.Queue.{rest_of}
use Rattle.mq_queue.specs.Row.{is_live, last_log, live_key}
use Rattle.mq_message.specs.declared.selection.Selection.{Selection}
use Rattle.mq_table.specs.Calls.{SlotTurn, sends, receives, sets, removes}
use Rattle.mq_table.specs.Ids.{seq_of}
use Rattle.mq_table.specs.Slot.{SlotState, last_id}
use Rattle.mq_table.specs.SlotList.{by_standing, standing}
use Rattle.mq_table.specs.declared.refusal.IdRefusal.{IdRefusal}
use Rattle.mq_calls.specs.Answer as call
use Rattle.mq_calls.specs.Texts.{bytes_of}
use Rattle.mq_calls.specs.declared.errno.Errno.{Errno}
use Rattle.mq_calls.specs.declared.errno.Errno.TheVariants.{ENOMEM}
use Rattle.mq_calls.specs.declared.results.Delivered.{Delivered}
use Rattle.mq_calls.specs.declared.results.Refused.{Refused}
use Rattle.mq_calls.specs.declared.results.Removal.{Removal}

-- what a call answers, with the slot that it leaves, or why it is refused
abbrev pub SlotAnswer : Type 0 → Type 0
SlotAnswer T = Result (T × SlotState PlainText) Refused

-- a refusal that all that has happened in the slot decides
abbrev pub refused_here : SlotState PlainText → Errno → Refused
refused_here s errno = call.refused_after (length s.events) errno

-- whether the slot has the id's queue, or why not
abbrev pub by_id_in_slot : SlotState PlainText → Result (Unit {0}) IdRefusal
    → Result (Unit {0}) Refused
by_id_in_slot s there = call.by_id (length s.events) there

-- whether the id's queue is in the slot, or why not
abbrev pub looks_in_slot : SlotState PlainText → ℕ → Result (Unit {0}) Refused
looks_in_slot s id = by_id_in_slot s (by_standing (standing s.events (seq_of id)))

-- what a call answers where the slot's queue returns this
abbrev pub answered_in_slot : {T : Type 0} → SlotState PlainText → SlotTurn PlainText T
    → SlotAnswer T
answered_in_slot s turn = call.answered (length s.events) turn

-- a call of the queue that an id names
abbrev pub in_slot_queue : {T : Type 0} → SlotState PlainText → ℕ → SlotTurn PlainText T
    → SlotAnswer T
in_slot_queue s id turn = call.once (looks_in_slot s id) (answered_in_slot s turn)

-- msgsnd (msgop(2), msgsnd)
abbrev pub send_in_slot : SlotState PlainText → ℕ → Message PlainText → ℕ → SlotAnswer ℕ
send_in_slot s id m moment = call.send m.mtype (in_slot_queue s id (sends bytes_of s m moment))

-- msgrcv (msgop(2), msgrcv)
abbrev pub receive_in_slot : SlotState PlainText → ℕ → ℕ → Selection → Bool → ℕ → ℕ
    → SlotAnswer (Delivered PlainText)
receive_in_slot s id size selection noerror seat moment =
    in_slot_queue s id
    (call.delivers s.messages size (length s.events)
    (receives s size selection noerror seat moment))

-- IPC_SET (msgctl(2), IPC_SET)
abbrev pub set_in_slot : SlotState PlainText → ℕ → ℕ → ℕ → ℕ → SlotAnswer ℕ
set_in_slot s id qbytes seat moment = in_slot_queue s id (sets s qbytes seat moment)

-- the entry of a removal, and the removed queue's own log, of which so many events were drained
abbrev pub removal : SlotState PlainText → SlotState PlainText → ℕ → Removal
removal s after places =
    record { entry = length s.events; log = rest_of places (last_log after.events) }

-- IPC_RMID (msgctl(2), IPC_RMID)
abbrev pub remove_in_slot : SlotState PlainText → ℕ → ℕ → ℕ → ℕ → SlotAnswer Removal
remove_in_slot s id seat moment places =
    let after = removes s seat moment in
    call.once (looks_in_slot s id) (Ok (removal s after places, after))

-- where nothing refuses a call that failed, it was out of memory
abbrev pub refused_or_memory_in_slot : {T : Type 0} → SlotState PlainText → SlotAnswer T → Refused
refused_or_memory_in_slot s answer = or_memory (refused_here s ENOMEM) answer

-- the id of the queue in the slot, where it is there and has this key
abbrev pub id_with_key : SlotState PlainText → ℤ → Option ℕ
id_with_key s key =
    if is_live s.events && int_eq (live_key s.events) key then Some (last_id s) else None
