-- Why a call is refused, and whether it waits.
use Rattle.std.specs.Prelude.{ℕ, ℤ, pos, negsuc, nat_lt, Bool, false, not, ◌||◌}
use Rattle.std.specs.Prelude.{if◌then◌else◌, Option, Some, None, Result, Ok, Err}
use Rattle.mq_table.specs.Ids.{slot_of}
use Rattle.mq_calls.specs.Names.{errno_number}
use Rattle.mq_calls.specs.declared.errno.Errno.{Errno}
use Rattle.mq_calls.specs.declared.errno.Errno.TheVariants.{EINVAL, EIDRM, EAGAIN, ENOMSG}
use Rattle.mq_face.specs.Flags.{has}
use Rattle.mq_face.specs.declared.call.Call.{Call}
use Rattle.mq_face.specs.declared.manual.TheConstants.{EFAULT, ENOSYS, SSIZE_MAX}
use Rattle.mq_face.specs.declared.manual.TheConstants.{IPC_NOWAIT, MSG_COPY, MSG_EXCEPT}
use Rattle.mq_face.specs.declared.refusal.Refusal.{Refusal}
use Rattle.mq_face.specs.declared.refusal.Wait.TheVariants.{No, Change}

-- the refusal by this number, which does not wait
abbrev pub fault : ℤ → Refusal
fault errno = record { errno = errno; wait = No }

-- the same by its name
abbrev pub refusal : Errno → Refusal
refusal errno = fault (errno_number errno)

-- a queue that was removed before the call is none, and one that was removed while the call waited
-- is EIDRM (msgop(2), EINVAL and EIDRM)
abbrev pub named : Bool → Errno → Errno
named false EIDRM = EINVAL
named waited errno = errno

-- the refusal of a call that does not wait
abbrev pub gone : Call → Errno → Refusal
gone call errno = refusal (named call.waited errno)

-- where the queue is full or has no message a call waits for a change in its slot
abbrev pub waits : ℕ → Errno → Refusal
waits slot EAGAIN = record { errno = errno_number EAGAIN; wait = Change slot }
waits slot ENOMSG = record { errno = errno_number ENOMSG; wait = Change slot }
waits slot errno = refusal errno

-- unless it has IPC_NOWAIT (msgop(2), IPC_NOWAIT)
abbrev pub blocked : Call → ℕ → Errno → Refusal
blocked call id errno =
    if has call.flags IPC_NOWAIT then gone call errno
    else waits (slot_of id) (named call.waited errno)

-- the id of a number: a negative one is none (msgop(2), msgctl(2), EINVAL)
abbrev pub id_named : ℤ → Result ℕ Refusal
id_named (pos n) = Ok n
id_named (negsuc n) = Err (refusal EINVAL)

-- the errno of MSG_COPY in a kernel without CONFIG_CHECKPOINT_RESTORE (msgop(2), ENOSYS)
abbrev pub copy_fault : Call → ℤ
copy_fault call =
    if has call.flags MSG_EXCEPT || not (has call.flags IPC_NOWAIT) then errno_number EINVAL
    else ENOSYS

-- what the numbers of a receipt decide: a room over SSIZE_MAX, MSG_COPY, and then no buffer
abbrev pub receive_fault : Call → Option ℤ
receive_fault call =
    if nat_lt SSIZE_MAX call.size then Some (errno_number EINVAL)
    else (if has call.flags MSG_COPY then Some (copy_fault call)
    else (if call.buffer then None else Some EFAULT))
