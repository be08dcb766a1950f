-- What the calls of one thread return, and the state after them.
use Rattle.std.specs.Prelude.{◌≡◌, ◌⊎◌, ℕ, ℤ, ◌<◌, Bool, false, if◌then◌else◌, List, length}
use Rattle.std.specs.Prelude.{Option, Result, Ok, Err, IsOk}
use Rattle.mq_arena.specs.Text.{PlainText}
use Rattle.mq_message.specs.declared.selection.Selection.{Selection}
use Rattle.mq_arena.specs.declared.order.TheConstants.{INLINE_LEN}
use Rattle.mq_queue.specs.Memory.{or_memory}
use Rattle.mq_queue.specs.declared.limits.TheConstants.{MSGMAX}
use Rattle.mq_table.specs.Cut.{cut_shown}
use Rattle.mq_table.specs.declared.cut.Cut.{Cut}
use Rattle.mq_table.specs.Kept.{entries_of}
use Rattle.mq_table.specs.KeptCalls.{kept_receives}
use Rattle.mq_calls.specs.Answer.{delivers}
use Rattle.mq_calls.specs.Calls.{cut_log}
use Rattle.mq_calls.specs.Get.{GetAnswer, MayRunOut}
use Rattle.mq_calls.specs.Look.{Answer, in_queue, refused_at, refused_early, refused_or_memory}
use Rattle.mq_calls.specs.State.{QueuesState}
use Rattle.mq_calls.specs.Texts.{draft_errno, drafts}
use Rattle.mq_calls.specs.declared.draft_error.DraftError.TheVariants.{Memory}
use Rattle.mq_calls.specs.declared.errno.Errno.{Errno}
use Rattle.mq_calls.specs.declared.errno.Errno.TheVariants.{E2BIG, EINVAL, ENOMEM}
use Rattle.mq_calls.specs.declared.results.Delivered.{Delivered}
use Rattle.mq_calls.specs.declared.results.Refused.{Refused}
use Rattle.mq_system.specs.Refusals.{never_sent}
use Rattle.mq.specs.Bytes.{copied_out, sends_bytes}
use Rattle.mq.specs.Caller.{IsRoom, IsUnselectable}

-- a message is sent: its type and its slot are checked before a text is drafted
abbrev pub sends_message : QueuesState → ℕ → ℕ → ℤ → ℕ → List ℕ → ℕ → Answer ℕ
sends_message s seat id mtype tag bytes moment =
    if never_sent (length s.slots) id mtype then Err (refused_early EINVAL)
    else sends_bytes s seat id mtype tag bytes moment

-- msgrcv of the first message that a selection names (msgop(2), msgrcv)
abbrev pub receives : QueuesState → ℕ → ℕ → ℕ → Selection → Bool → ℕ
    → Answer (Delivered PlainText)
receives s seat id size selection noerror moment = in_queue s id (λ slot.
    delivers slot.messages size (entries_of slot)
    (kept_receives slot size selection noerror seat moment))

-- a message was received, for which there was room
pub record IsTaken (s : QueuesState) (seat id most : ℕ) (selection : Selection) (noerror : Bool)
    (moment : ℕ) (d : Delivered PlainText) (after : QueuesState) : Type 0 where
  pub room : ℕ
  pub is_room : IsRoom most noerror room
  pub answer : receives s seat id room selection noerror moment ≡ Ok (d, after)

-- its bytes were, and its text was spent
pub record IsCopiedOut (s : QueuesState) (seat id most : ℕ) (selection : Selection)
    (noerror : Bool) (moment : ℕ) (d : Delivered (List ℕ)) (after : QueuesState) : Type 0 where
  pub room : ℕ
  pub is_room : IsRoom most noerror room
  pub answer : copied_out (receives s seat id room selection noerror moment) ≡ Ok (d, after)

-- a receipt was refused: for a text's length only where that is over the most that may be returned
pub record IsRefusedReceipt (s : QueuesState) (seat id most : ℕ) (selection : Selection)
    (noerror : Bool) (moment : ℕ) (errno : Errno) : Type 0 where
  pub room : ℕ
  pub is_room : IsRoom most noerror room
  pub all : errno ≡ E2BIG → room ≡ most
  pub refused : errno
      ≡ (refused_or_memory s id (receives s seat id room selection noerror moment)).errno

-- nothing was received: for the selection, out of memory, or the call was refused
abbrev pub IsNotTaken : QueuesState → ℕ → ℕ → ℕ → Selection → Bool → ℕ → Errno → Type 0
IsNotTaken s seat id most selection noerror moment errno =
    IsUnselectable selection errno ⊎ ((errno ≡ ENOMEM) × (0 < most))
    ⊎ IsRefusedReceipt s seat id most selection noerror moment errno

-- a call was refused by its errno, and left all as it was
pub record IsTurnedDown {T : Type 0} (answer : Answer T) (memory : Refused)
    (before after : QueuesState) (errno : Errno) : Type 0 where
  pub refused : errno ≡ (or_memory memory answer).errno
  pub unchanged : after ≡ before

-- a call returns and leaves this, or is refused
abbrev pub AnswersErrno : {T : Type 0} → Answer T → Refused → QueuesState → QueuesState
    → Result T Errno → Type 0
AnswersErrno answer memory before after (Ok told) = answer ≡ Ok (told, after)
AnswersErrno answer memory before after (Err errno) =
    IsTurnedDown answer memory before after errno

-- a queue was neither found nor created, and all is as it was
pub record IsNoIdOf (answer : GetAnswer) (before after : QueuesState) (errno : Errno)
    : Type 0 where
  pub refused : errno ≡ or_memory ENOMEM answer
  pub memory : MayRunOut answer
  pub unchanged : after ≡ before

-- an id is what msgget returns, or there is none
abbrev pub IsIdOf : GetAnswer → QueuesState → QueuesState → Result ℕ Errno → Type 0
IsIdOf answer before after (Ok id) =
    (made : Option ℕ) × (answer ≡ Ok (record { id = id; made = made }, after))
IsIdOf answer before after (Err errno) = IsNoIdOf answer before after errno

-- a slot's log is drained, or there is no memory for that
abbrev pub AnswersCutLog : QueuesState → ℕ → QueuesState → Result Cut Errno → Type 0
AnswersCutLog before k after (Ok cut) = cut_log before k ≡ (cut_shown cut, after)
AnswersCutLog before k after (Err errno) = (errno ≡ ENOMEM) × (after ≡ before)

-- no text is drafted: it is too long, no pages are free, or memory ran out
pub record IsNoDraftOf (before : QueuesState) (n : ℕ) (after : QueuesState) (errno : Errno)
    : Type 0 where
  pub refused : errno ≡ draft_errno (or_memory Memory (drafts before n))
  pub memory : IsOk (drafts before n) → INLINE_LEN < n
  pub unchanged : after ≡ before

-- a text of zeros is drafted, or none
abbrev pub AnswersDraft : QueuesState → ℕ → QueuesState → Result PlainText Errno → Type 0
AnswersDraft before n after (Ok text) = drafts before n ≡ Ok (text, after)
AnswersDraft before n after (Err errno) = IsNoDraftOf before n after errno

-- a text is received, or the selection names no type, or the call is refused
abbrev pub AnswersText : QueuesState → ℕ → ℕ → Selection → ℕ → QueuesState
    → Result (Delivered PlainText) Errno → Type 0
AnswersText before seat id selection moment after (Ok d) =
    receives before seat id MSGMAX selection false moment ≡ Ok (d, after)
AnswersText before seat id selection moment after (Err errno) =
    (IsUnselectable selection errno × (after ≡ before))
    ⊎ IsTurnedDown (receives before seat id MSGMAX selection false moment)
    (refused_at before id ENOMEM) before after errno
