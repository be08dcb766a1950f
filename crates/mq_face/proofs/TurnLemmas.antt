use Rattle.std.proofs.Common.{◌≡◌, ℕ, Bool, true, false, if◌then◌else◌, Ok, Err, None, refl, ap, sym, ◌∙◌}
use Rattle.mq_queue.specs.Memory.{or_memory}
use Rattle.mq_table.specs.Ids.{slot_of}
use Rattle.mq_calls.specs.Look.{Answer, refused_or_memory}
use Rattle.mq_calls.specs.State.{QueuesState}
use Rattle.mq_calls.specs.declared.errno.Errno.TheVariants.{ENOMEM}
use Rattle.mq_calls.specs.declared.results.Delivered.{Delivered}
use Rattle.mq_calls.specs.declared.results.Refused.{Refused}
use Rattle.mq_arena.specs.Text.{PlainText}
use Rattle.mq_calls.specs.Calls.{msgsnd, msgrcv}
use Rattle.mq_face.specs.Answers.{changed}
use Rattle.mq_face.specs.Flags.{has}
use Rattle.mq_face.specs.Refusals.{blocked, id_named, named, receive_fault, refusal, waits}
use Rattle.mq_face.specs.Turns.{received_message, receive_turn, send_turn, told}
use Rattle.mq_face.specs.declared.call.Call.{Call}
use Rattle.mq_face.specs.declared.manual.TheConstants.{IPC_NOWAIT, MSG_EXCEPT, MSG_NOERROR, SEAT}

-- a call that is out of memory does not wait, whatever the flags are
memory_named : (nowait waited : Bool) (slot : ℕ)
    → (if nowait then refusal (named waited ENOMEM) else waits slot (named waited ENOMEM)) ≡ refusal ENOMEM
memory_named true true slot = refl
memory_named true false slot = refl
memory_named false true slot = refl
memory_named false false slot = refl

memory_blocked : (call : Call) (id : ℕ) → blocked call id ENOMEM ≡ refusal ENOMEM
memory_blocked call id = memory_named (has call.flags IPC_NOWAIT) call.waited (slot_of id)

-- the refusal of a call of a queue is that of its turn
pub blocked_as : {T U : Type 0} (s : QueuesState) (call : Call) (id : ℕ) (tell : T → U) (a : Answer T) (r : Refused)
    → r ≡ refused_or_memory s id a → blocked call id r.errno ≡ or_memory (refusal ENOMEM) (told (blocked call id) tell a)
blocked_as s call id tell (Ok turn) r e = ap (λ (x : Refused). blocked call id x.errno) e ∙ memory_blocked call id
blocked_as s call id tell (Err other) r e = ap (λ (x : Refused). blocked call id x.errno) e

-- a send that is refused once its text is drafted
pub send_refused : (s : QueuesState) (call : Call) (text : PlainText) (id : ℕ) (r : Refused) → Ok id ≡ id_named call.number
    → r ≡ refused_or_memory s id (msgsnd s SEAT id call.mtype 0 text call.moment)
    → blocked call id r.errno ≡ or_memory (refusal ENOMEM) (send_turn s call text)
send_refused s call text id r named e =
    rw (sym named) (blocked_as s call id (changed (slot_of id)) (msgsnd s SEAT id call.mtype 0 text call.moment) r e)

-- a receipt that is refused by the queues
pub receive_refused : (s : QueuesState) (call : Call) (id : ℕ) (r : Refused) → Ok id ≡ id_named call.number → None ≡ receive_fault call
    → r ≡ refused_or_memory s id (msgrcv s SEAT id call.size call.mtype (has call.flags MSG_EXCEPT) (has call.flags MSG_NOERROR) call.moment)
    → blocked call id r.errno ≡ or_memory (refusal ENOMEM) (receive_turn s call)
receive_refused s call id r named none e =
    rw (sym named, sym none)
    (blocked_as s call id (received_message id)
    (msgrcv s SEAT id call.size call.mtype (has call.flags MSG_EXCEPT) (has call.flags MSG_NOERROR) call.moment) r e)

-- a receipt that the queues do not refuse
pub receive_done : (s after : QueuesState) (call : Call) (id : ℕ) (d : Delivered PlainText) → Ok id ≡ id_named call.number → None ≡ receive_fault call
    → msgrcv s SEAT id call.size call.mtype (has call.flags MSG_EXCEPT) (has call.flags MSG_NOERROR) call.moment ≡ Ok (d, after)
    → receive_turn s call ≡ Ok (received_message id d, after)
receive_done s after call id d named none e =
    rw (sym named, sym none) (ap (told (blocked call id) (received_message id)) e)
