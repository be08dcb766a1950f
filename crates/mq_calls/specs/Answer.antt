-- What a call of an id returns and leaves, a slot or all queues, or why it is refused (msgop(2),
-- msgctl(2)).
use Rattle.std.specs.Prelude.{ℕ, ℤ, pos, int_lt, if◌then◌else◌, List, Some, None, Result, Ok, Err}
use Rattle.mq_arena.specs.Text.{PlainText}
use Rattle.mq_message.specs.declared.header.Header.{Header}
use Rattle.mq_message.specs.declared.message.Message.{Message}
use Rattle.mq_queue.specs.declared.error.QueueError.{QueueError}
use Rattle.mq_queue.specs.declared.error.QueueError.TheVariants.{TypeInvalid, TooLong, Full}
use Rattle.mq_queue.specs.declared.error.QueueError.TheVariants.{NoMessage, TooBig}
use Rattle.mq_queue.specs.declared.error.QueueError.TheVariants.{OverLimit, Memory}
use Rattle.mq_table.specs.declared.refusal.IdRefusal.{IdRefusal}
use Rattle.mq_table.specs.declared.refusal.IdRefusal.TheVariants.{Never, Removed}
use Rattle.mq_calls.specs.Texts.{cut_to, text_at}
use Rattle.mq_calls.specs.declared.errno.Errno.{Errno}
use Rattle.mq_calls.specs.declared.errno.Errno.TheVariants.{EINVAL, EIDRM, EAGAIN, ENOMEM}
use Rattle.mq_calls.specs.declared.errno.Errno.TheVariants.{ENOMSG, E2BIG, EPERM}
use Rattle.mq_calls.specs.declared.results.Delivered.{Delivered}
use Rattle.mq_calls.specs.declared.results.Refused.{Refused}

-- the manual's name of a queue's refusal (msgop(2), msgctl(2))
abbrev pub errno_of : QueueError → Errno
errno_of TypeInvalid = EINVAL
errno_of TooLong = EINVAL
errno_of Full = EAGAIN
errno_of NoMessage = ENOMSG
errno_of TooBig = E2BIG
errno_of OverLimit = EPERM
errno_of Memory = ENOMEM

-- and of an id's (msgctl(2), EINVAL and EIDRM)
abbrev pub errno_of_id : IdRefusal → Errno
errno_of_id Never = EINVAL
errno_of_id Removed = EIDRM

-- a refusal that the type or the slot number alone decides
abbrev pub refused_early : Errno → Refused
refused_early errno = record { errno = errno; entry = None }

-- a refusal that so many entries decide, all that has happened in the slot
abbrev pub refused_after : ℕ → Errno → Refused
refused_after entries errno = record { errno = errno; entry = Some entries }

-- whether the id's queue is in a slot of so many entries, or why not
abbrev pub by_id : ℕ → Result (Unit {0}) IdRefusal → Result (Unit {0}) Refused
by_id entries (Ok _) = Ok tt
by_id entries (Err refusal) = Err (refused_after entries (errno_of_id refusal))

-- what is returned where the slot's queue returns this
abbrev pub answered : {A : Type 0} → ℕ → Result A QueueError → Result A Refused
answered entries (Ok turn) = Ok turn
answered entries (Err refusal) = Err (refused_after entries (errno_of refusal))

-- the result, unless the id is refused
abbrev pub once : {A : Type 0} → Result (Unit {0}) Refused → Result A Refused → Result A Refused
once (Ok _) answer = answer
once (Err refused) answer = Err refused

-- msgsnd: a type below 1 is refused before the id is checked (msgop(2), msgsnd)
abbrev pub send : {A : Type 0} → ℤ → Result A Refused → Result A Refused
send mtype answer = if int_lt mtype (pos 1) then Err (refused_early EINVAL) else answer

-- what a receiver gets of the pending messages, at this entry: the message and its text, truncated
-- to the size
abbrev pub delivered : List (ℕ × Message PlainText) → ℕ → ℕ → Header → Delivered PlainText
delivered messages size entry m = record {
  entry = entry;
  mtype = m.mtype;
  sender = m.seat;
  tag = m.tag;
  length = m.length;
  text = cut_to size (text_at m.place messages);
}

-- msgrcv: that is returned, unless the queue refuses (msgop(2), msgrcv)
abbrev pub delivers : {S : Type 0} → List (ℕ × Message PlainText) → ℕ → ℕ
    → Result (Header × S) QueueError → Result (Delivered PlainText × S) QueueError
delivers messages size entry (Ok turn) = Ok (delivered messages size entry turn.0, turn.1)
delivers messages size entry (Err refusal) = Err refusal
