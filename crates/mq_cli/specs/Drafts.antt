-- Texts that are drafted from what a line says.
use Rattle.std.specs.Prelude.{◌≡◌, ℕ, ◌+◌, ◌%◌, ◌<◌, ◌↔◌, nat_lt, true, List, length, map, Result}
use Rattle.std.specs.Prelude.{Ok, Err, IfOk, IsErrOf}
use Rattle.std.specs.List.{range_with_len}
use Rattle.mq_arena.specs.Text.{PlainText}
use Rattle.mq_arena.specs.declared.order.TheConstants.{INLINE_LEN}
use Rattle.mq_queue.specs.declared.limits.TheConstants.{MSGMAX}
use Rattle.mq_queue.specs.Memory.{or_memory}
use Rattle.mq_calls.specs.State.{QueuesState}
use Rattle.mq_calls.specs.Texts.{drafts_of, draft_errno}
use Rattle.mq_calls.specs.declared.draft_error.DraftError.{DraftError}
use Rattle.mq_calls.specs.declared.draft_error.DraftError.TheVariants.{TooLong, NoRun, Memory}
use Rattle.mq_calls.specs.declared.errno.Errno.{Errno}
use Rattle.mq_cli.specs.Commands.{AskedText, plain, letters}

-- the letters a to z, over and over
abbrev pub letter : ℕ → ℕ
letter i = 97 + i % 26

abbrev pub bytes_of_text : AskedText → List ℕ
bytes_of_text (plain bytes) = bytes
bytes_of_text (letters count) = map letter (range_with_len 0 count)

-- a draft, by the name of its refusal
abbrev pub by_draft_errno : Result (PlainText × QueuesState) DraftError
    → Result (PlainText × QueuesState) Errno
by_draft_errno (Ok made) = Ok made
by_draft_errno (Err e) = Err (draft_errno e)

-- a text of what the line says
abbrev pub draft : QueuesState → AskedText → Result (PlainText × QueuesState) Errno
draft queues text = by_draft_errno (drafts_of queues (bytes_of_text text))

-- no text was drafted: the queues, which stay as they were, determine why; memory runs out only for
-- a text that is longer than `INLINE_LEN`
pub record HasNoDraft (before after : QueuesState) (text : AskedText) (refusal : DraftError)
    : Type 0 where
  pub refused : refusal ≡ or_memory Memory (drafts_of before (bytes_of_text text))
  pub memory : refusal ≡ Memory → INLINE_LEN < length (bytes_of_text text)
  pub unchanged : after ≡ before

-- a text was drafted from what the line says, or not
abbrev pub Drafts : QueuesState → QueuesState → AskedText → Result PlainText DraftError → Type 0
Drafts before after text (Ok made) = draft before text ≡ Ok (made, after)
Drafts before after text (Err refusal) = HasNoDraft before after text refusal

-- a text of these bytes was drafted; or they are too many, or no pages or no memory were found for
-- a text that is not empty
pub record DraftsBytes (bytes : List ℕ) (result : Result PlainText DraftError) : Type 0 where
  pub ok : IfOk result (λ text. text.bytes ≡ bytes)
  pub too_long : IsErrOf result TooLong ↔ (nat_lt MSGMAX (length bytes) ≡ true)
  pub no_run : IsErrOf result NoRun → 0 < length bytes
  pub memory : IsErrOf result Memory → 0 < length bytes
