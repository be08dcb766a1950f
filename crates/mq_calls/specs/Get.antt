-- What msgget returns and leaves (msgget(2)).
use Rattle.std.specs.Prelude.{◌≡◌, ℕ, ℤ, pos, ◌<◌, ◌≤◌, false, ◌&&◌, if◌then◌else◌}
use Rattle.std.specs.Prelude.{length, position, Option, Some, None, IsSome, Result, Ok, Err}
use Rattle.std.specs.Ordering.{int_eq}
use Rattle.mq_table.specs.Kept.{entries_of, is_live_kept, made_of}
use Rattle.mq_table.specs.KeptCalls.{kept_makes}
use Rattle.mq_table.specs.KeptShown.{is_free_now, next_id_now}
use Rattle.mq_table.specs.Keys.{id_of_key, entered}
use Rattle.mq_table.specs.declared.limits.TheConstants.{MAX_SEQ}
use Rattle.mq_calls.specs.State.{QueuesState, slot_at, with_slot}
use Rattle.mq_calls.specs.declared.errno.Errno.{Errno}
use Rattle.mq_calls.specs.declared.errno.Errno.TheVariants.{EEXIST, ENOENT, ENOSPC}
use Rattle.mq_calls.specs.declared.results.GetFlags.{GetFlags}
use Rattle.mq_calls.specs.declared.results.Got.{Got}

-- the id, and what is left
abbrev pub GetAnswer : Type 0
GetAnswer = Result (Got × QueuesState) Errno

-- a queue is created in slot k, if there is one: its id is the slot's next one, and its key, if it
-- has one, is entered last
abbrev pub made_in : QueuesState → ℤ → ℕ → ℕ → Option ℕ → GetAnswer
made_in s key seat moment None = Err ENOSPC
made_in s key seat moment (Some k) =
    let slot = slot_at s k in
    Ok (
      record { id = next_id_now slot; made = Some (entries_of slot) },
      record (with_slot s k (kept_makes slot key seat moment)) {
        keys = entered key (next_id_now slot) s.keys;
      },
    )

-- the first slot in which no queue is and an id is left
abbrev pub free_slot : QueuesState → Option ℕ
free_slot s = position (λ slot. is_free_now s.last_seq slot) s.slots

-- a queue is created in that slot
abbrev pub makes_one : QueuesState → ℤ → ℕ → ℕ → GetAnswer
makes_one s key seat moment = made_in s key seat moment (free_slot s)

-- by a key: the queue that has it, or a new one (msgget(2), IPC_CREAT and IPC_EXCL)
abbrev pub by_key : QueuesState → ℕ → ℤ → GetFlags → ℕ → Option ℕ → GetAnswer
by_key s seat key flags moment (Some id) =
    if flags.create && flags.exclusive then Err EEXIST else Ok (record { id = id; made = None }, s)
by_key s seat key flags moment None =
    if flags.create then makes_one s key seat moment else Err ENOENT

-- msgget: key 0, which is IPC_PRIVATE, always creates a queue (msgget(2))
abbrev pub msgget : QueuesState → ℕ → ℤ → GetFlags → ℕ → GetAnswer
msgget s seat key flags moment =
    if int_eq key (pos 0) then makes_one s key seat moment
    else by_key s seat key flags moment (id_of_key s.keys key)

-- a call that runs out of memory where nothing refuses it was to create a queue
abbrev pub MayRunOut : GetAnswer → Type 0
MayRunOut (Ok turn) = IsSome turn.0.made
MayRunOut (Err errno) = Unit {0}

-- a queue can be created in slot k: none is in it, and a seq is left
pub record IsFreeSlot (s : QueuesState) (k : ℕ) : Type 0 where
  pub within : k < length s.slots
  pub empty : is_live_kept (slot_at s k) ≡ false
  pub unused : made_of (slot_at s k) ≤ MAX_SEQ
  pub left : made_of (slot_at s k) ≤ s.last_seq
