-- How an id finds its queue among all queues, and what a call of it returns and leaves.
use Rattle.std.specs.Prelude.{◌≡◌, ℕ, ◌<◌, nat_lt, true, if◌then◌else◌, length, Result, Ok, Err}
use Rattle.mq_arena.specs.Text.{PlainText}
use Rattle.mq_queue.specs.declared.error.QueueError.{QueueError}
use Rattle.mq_queue.specs.Memory.{or_memory}
use Rattle.mq_table.specs.declared.refusal.IdRefusal.{IdRefusal}
use Rattle.mq_table.specs.Ids.{slot_of, seq_of}
use Rattle.mq_table.specs.Kept.{KeptSlot, entries_of, is_live_kept}
use Rattle.mq_table.specs.KeptCalls.{KeptTurn}
use Rattle.mq_table.specs.KeptShown.{standing_now}
use Rattle.mq_table.specs.SlotList.{by_standing}
pub use Rattle.mq_calls.specs.Answer.{errno_of, errno_of_id, once, refused_early}
use Rattle.mq_calls.specs.Answer.{answered, by_id, refused_after}
use Rattle.mq_calls.specs.State.{QueuesState, slot_at, with_slot}
use Rattle.mq_calls.specs.declared.errno.Errno.{Errno}
use Rattle.mq_calls.specs.declared.errno.Errno.TheVariants.{EINVAL, ENOMEM}
use Rattle.mq_calls.specs.declared.results.Refused.{Refused}

-- what a call returns and leaves, or why it is refused
abbrev pub Answer : Type 0 → Type 0
Answer T = Result (T × QueuesState) Refused

-- a refusal that all that has happened in this slot decides
abbrev pub refused_in : QueuesState → ℕ → Errno → Refused
refused_in s k errno = refused_after (entries_of (slot_at s k)) errno

-- the same of an id's slot
abbrev pub refused_at : QueuesState → ℕ → Errno → Refused
refused_at s id errno = refused_in s (slot_of id) errno

-- whether the slot has the id's queue, or why not
abbrev pub by_slot : QueuesState → ℕ → Result (Unit {0}) IdRefusal → Result (Unit {0}) Refused
by_slot s id there = by_id (entries_of (slot_at s (slot_of id))) there

-- whether an id's queue is there, or why not
abbrev pub look : QueuesState → ℕ → Result (Unit {0}) Refused
look s id =
    if nat_lt (slot_of id) (length s.slots)
    then by_slot s id (by_standing (standing_now (slot_at s (slot_of id)) (seq_of id)))
    else Err (refused_early EINVAL)

-- slot k has the live queue with this id
pub record IsSlotOfId (s : QueuesState) (id k : ℕ) : Type 0 where
  pub slot : k ≡ slot_of id
  pub within : k < length s.slots
  pub live : is_live_kept (slot_at s k) ≡ true
  pub there : look s id ≡ Ok tt

-- what the queues are where an id's slot is left so
abbrev pub placed : {T : Type 0} → QueuesState → ℕ → KeptTurn PlainText T
    → Result (T × QueuesState) QueueError
placed s id (Ok turn) = Ok (turn.0, with_slot s (slot_of id) turn.1)
placed s id (Err refusal) = Err refusal

-- what the system returns and leaves, where the id's slot returns this
abbrev pub in_slot : {T : Type 0} → QueuesState → ℕ → KeptTurn PlainText T → Answer T
in_slot s id turn = answered (entries_of (slot_at s (slot_of id))) (placed s id turn)

-- a call of the queue that an id names
abbrev pub in_queue : {T : Type 0} → QueuesState → ℕ → (KeptSlot PlainText → KeptTurn PlainText T)
    → Answer T
in_queue s id call = once (look s id) (in_slot s id (call (slot_at s (slot_of id))))

-- why a call of an id failed: where nothing else refuses it, it is out of memory, after all in its
-- slot
abbrev pub refused_or_memory : {T : Type 0} → QueuesState → ℕ → Answer T → Refused
refused_or_memory s id answer = or_memory (refused_at s id ENOMEM) answer
