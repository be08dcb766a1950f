-- What each call answers and leaves, or why it is refused.
use Rattle.std.specs.Prelude.{ℕ, ℤ, pos, int_lt, nat_lt, ◌*◌, ◌^◌, ◌||◌, Bool, if◌then◌else◌}
use Rattle.std.specs.Prelude.{Option, Some, None, IsSome, Result, Ok, Err}
use Rattle.mq_arena.specs.declared.page.TheConstants.{PAGE_LEN}
use Rattle.mq_arena.specs.Text.{PlainText}
use Rattle.mq_queue.specs.declared.figures.Figures.{Figures}
use Rattle.mq_table.specs.Ids.{slot_of}
use Rattle.mq_calls.specs.Calls.{msgsnd, msgrcv, rmid, set, stat}
use Rattle.mq_calls.specs.Get.{msgget}
use Rattle.mq_calls.specs.Look.{Answer}
use Rattle.mq_calls.specs.Names.{errno_number}
use Rattle.mq_local.specs.Outcome.{Answers}
use Rattle.mq_calls.specs.State.{QueuesState}
use Rattle.mq_calls.specs.Texts.{drafts}
use Rattle.mq_calls.specs.declared.draft_error.DraftError.{DraftError}
use Rattle.mq_calls.specs.declared.draft_error.DraftError.TheVariants as draft
use Rattle.mq_calls.specs.declared.errno.Errno.{Errno}
use Rattle.mq_calls.specs.declared.errno.Errno.TheVariants.{EINVAL, ENOMEM}
use Rattle.mq_calls.specs.declared.results.Delivered.{Delivered}
use Rattle.mq_calls.specs.declared.results.Got.{Got}
use Rattle.mq_face.specs.Answers.{changed}
use Rattle.mq_face.specs.Commands.{command_of, info_reply, slot_reply, stat_reply}
use Rattle.mq_face.specs.Flags.{has, get_flags}
use Rattle.mq_face.specs.Refusals.{blocked, fault, gone, id_named, receive_fault, refusal}
use Rattle.mq_face.specs.declared.answer.Done.{Done}
use Rattle.mq_face.specs.declared.answer.ReceivedMessage.{ReceivedMessage}
use Rattle.mq_face.specs.declared.answer.ControlShown.TheVariants as shown
use Rattle.mq_face.specs.declared.call.Call.{Call}
use Rattle.mq_face.specs.declared.command.ControlCommand.{ControlCommand}
use Rattle.mq_face.specs.declared.command.ControlCommand.TheVariants.{Remove, Set, Stat, StatSlot}
use Rattle.mq_face.specs.declared.command.ControlCommand.TheVariants.{Info}
use Rattle.mq_face.specs.declared.manual.TheConstants.{EFAULT, SEAT}
use Rattle.mq_face.specs.declared.manual.TheConstants.{IPC_NOWAIT, MSG_EXCEPT, MSG_NOERROR}
use Rattle.mq_face.specs.declared.refusal.Refusal.{Refusal}
use Rattle.mq_face.specs.declared.refusal.Wait.TheVariants as wait

-- what a call answers and leaves, or why it is refused, and then it leaves all
abbrev pub Turn : Type 0 → Type 0
Turn T = Result (T × QueuesState) Refusal

-- a call answers and leaves so; or it is refused, and leaves what stood before
abbrev pub AnswersTurn : {T : Type 0} → Turn T → QueuesState → QueuesState → Result T Refusal
    → Type 0
AnswersTurn turn before after result = Answers turn (refusal ENOMEM) before after result

-- a call that fails where nothing refuses it was to change a slot
abbrev pub WantsMemory : Turn Done → Type 0
WantsMemory (Ok turn) = IsSome turn.0.entry
WantsMemory (Err r) = Unit {0}

-- a call of the id that a number is
abbrev pub with_id : {T : Type 0} → Result ℕ Refusal → (ℕ → Result T Refusal) → Result T Refusal
with_id (Ok id) call = call id
with_id (Err r) call = Err r

-- an answer of the queues, as the call returns it
abbrev pub told : {T U : Type 0} → (Errno → Refusal) → (T → U) → Answer T → Turn U
told refuse tell (Ok turn) = Ok (tell turn.0, turn.1)
told refuse tell (Err r) = Err (refuse r.errno)

-- what is only shown leaves all
abbrev pub leaves : {T : Type 0} → QueuesState → Result T Refusal → Turn T
leaves s (Ok done) = Ok (done, s)
leaves s (Err r) = Err r

-- msgget: an id (msgget(2))
abbrev pub got : Got → Done
got g = record { value = g.id; slot = slot_of g.id; entry = g.made; shown = shown.Nothing }

abbrev pub gets : Result (Got × QueuesState) Errno → Turn Done
gets (Ok turn) = Ok (got turn.0, turn.1)
gets (Err errno) = Err (refusal errno)

abbrev pub get_turn : QueuesState → Call → Turn Done
get_turn s call = gets (msgget s SEAT call.number (get_flags call.flags) call.moment)

-- whether a text is longer than all pages are
abbrev pub never_fits : QueuesState → ℕ → Bool
never_fits s size = nat_lt (2 ^ s.arena.height * PAGE_LEN) size

-- a text for which no pages are free: a queue that is not there is reported first; without
-- IPC_NOWAIT the call waits for pages, unless there are never enough
abbrev pub without_pages : QueuesState → Call → Result Figures Errno → Refusal
without_pages s call (Err errno) = gone call errno
without_pages s call (Ok _) =
    if has call.flags IPC_NOWAIT || never_fits s call.size then refusal ENOMEM
    else record { errno = errno_number ENOMEM; wait = wait.Pages }

-- a draft, as the call returns it
abbrev pub drafted : QueuesState → Call → ℕ → Result (PlainText × QueuesState) DraftError
    → Turn PlainText
drafted s call id (Ok turn) = Ok turn
drafted s call id (Err draft.TooLong) = Err (refusal EINVAL)
drafted s call id (Err draft.NoRun) = Err (without_pages s call (stat s id))
drafted s call id (Err draft.Memory) = Err (refusal ENOMEM)

-- the text of a message that is to be sent (msgop(2), msgsnd)
abbrev pub draft_turn : QueuesState → Call → Turn PlainText
draft_turn s call =
    if call.buffer
    then with_id (id_named call.number) (λ id.
    if int_lt call.mtype (pos 1) then Err (refusal EINVAL)
    else drafted s call id (drafts s call.size))
    else Err (fault EFAULT)

-- a text that was drafted is sent (msgop(2), msgsnd)
abbrev pub send_turn : QueuesState → Call → PlainText → Turn Done
send_turn s call text = with_id (id_named call.number) (λ id.
    told (blocked call id) (changed (slot_of id))
    (msgsnd s SEAT id call.mtype 0 text call.moment))

-- msgrcv: a message (msgop(2), msgrcv)
abbrev pub received_message : ℕ → Delivered PlainText → ReceivedMessage PlainText
received_message id d =
    record { slot = slot_of id; entry = d.entry; mtype = d.mtype; text = d.text }

-- unless its numbers refuse the call
abbrev pub unless : {T : Type 0} → Option ℤ → Turn T → Turn T
unless (Some errno) turn = Err (fault errno)
unless None turn = turn

abbrev pub receive_turn : QueuesState → Call → Turn (ReceivedMessage PlainText)
receive_turn s call = with_id (id_named call.number) (λ id.
    unless (receive_fault call)
    (told (blocked call id) (received_message id)
    (msgrcv s SEAT id call.size call.mtype (has call.flags MSG_EXCEPT)
    (has call.flags MSG_NOERROR) call.moment)))

-- IPC_RMID (msgctl(2), IPC_RMID)
abbrev pub remove_turn : QueuesState → Call → ℕ → Turn Done
remove_turn s call id =
    told (gone call) (λ removal. changed (slot_of id) removal.entry) (rmid s SEAT id call.moment)

-- IPC_SET (msgctl(2), IPC_SET)
abbrev pub set_turn : QueuesState → Call → ℕ → Turn Done
set_turn s call id =
    if call.buffer
    then told (gone call) (changed (slot_of id)) (set s SEAT id call.size call.moment)
    else Err (fault EFAULT)

-- what is asked for (msgctl(2))
abbrev pub commanded : QueuesState → Call → ℕ → Option ControlCommand → Turn Done
commanded s call id (Some Remove) = remove_turn s call id
commanded s call id (Some Set) = set_turn s call id
commanded s call id (Some Stat) = leaves s (stat_reply call id (stat s id))
commanded s call id (Some StatSlot) = leaves s (slot_reply s call id)
commanded s call id (Some Info) = leaves s (info_reply s call)
commanded s call id None = Err (refusal EINVAL)

abbrev pub control_turn : QueuesState → Call → Turn Done
control_turn s call =
    with_id (id_named call.number) (λ id. commanded s call id (command_of call.flags))
