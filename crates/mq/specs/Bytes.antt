-- Texts that are sent and received whole, as bytes.
use Rattle.std.specs.Prelude.{◌≡◌, ◌⊎◌, ℕ, ℤ, ◌<◌, List, length, Result, Ok, Err, IsOk}
use Rattle.mq_arena.specs.Text.{PlainText}
use Rattle.mq_arena.specs.declared.order.TheConstants.{INLINE_LEN}
use Rattle.mq_queue.specs.Memory.{or_memory}
use Rattle.mq_calls.specs.Calls.{msgsnd}
use Rattle.mq_calls.specs.Look.{Answer, refused_early}
use Rattle.mq_calls.specs.State.{QueuesState}
use Rattle.mq_calls.specs.Texts.{draft_errno, drafts, text_spent}
use Rattle.mq_calls.specs.declared.draft_error.DraftError.{DraftError}
use Rattle.mq_calls.specs.declared.errno.Errno.{Errno}
use Rattle.mq_calls.specs.declared.errno.Errno.TheVariants.{ENOMEM}
use Rattle.mq_calls.specs.declared.results.Delivered.{Delivered}
use Rattle.mq_calls.specs.declared.results.Refused.{Refused}

-- a text that was drafted is sent with these bytes
abbrev pub sends_draft : ℕ → ℕ → ℤ → ℕ → List ℕ → ℕ → Result (PlainText × QueuesState) DraftError
    → Answer ℕ
sends_draft seat id mtype tag bytes moment (Ok d) =
    msgsnd d.1 seat id mtype tag (record { bytes = bytes; block = d.0.block }) moment
sends_draft seat id mtype tag bytes moment (Err e) = Err (refused_early (draft_errno e))

-- these bytes are drafted, and sent
abbrev pub sends_bytes : QueuesState → ℕ → ℕ → ℤ → ℕ → List ℕ → ℕ → Answer ℕ
sends_bytes s seat id mtype tag bytes moment =
    sends_draft seat id mtype tag bytes moment (drafts s (length bytes))

-- a text of these bytes may run out of memory: it needs some, and a run of pages is free for it
abbrev pub MayLackMemory : QueuesState → List ℕ → Type 0
MayLackMemory s bytes = (INLINE_LEN < length bytes) × IsOk (drafts s (length bytes))

-- what was received, with another form of its text
abbrev pub with_text : {A B : Type 0} → Delivered A → B → Delivered B
with_text d text = record {
  entry = d.entry;
  mtype = d.mtype;
  sender = d.sender;
  tag = d.tag;
  length = d.length;
  text = text;
}

-- a text that was received is copied out and spent
abbrev pub copied_out : Answer (Delivered PlainText) → Answer (Delivered (List ℕ))
copied_out (Ok turn) =
    let text = turn.0.text in
    Ok (with_text turn.0 text.bytes, text_spent text turn.1)
copied_out (Err refused) = Err refused

-- a call of bytes was refused, by what its definition says or where memory is lacking, and left all
-- as it was
pub record IsErrnoOf {T : Type 0} (answer : Answer T) (memory : Refused) (lacking : Type 0)
    (before after : QueuesState) (errno : Errno) : Type 0 where
  pub refused : (errno ≡ (or_memory memory answer).errno) ⊎ ((errno ≡ ENOMEM) × lacking)
  pub unchanged : after ≡ before

-- a call of bytes returns and leaves this, or is refused
abbrev pub AnswersBytes : {T U : Type 0} → Result U Errno → (U → T) → Answer T → Refused → Type 0
    → QueuesState → QueuesState → Type 0
AnswersBytes (Ok told) tell answer memory lacking before after = answer ≡ Ok (tell told, after)
AnswersBytes (Err errno) tell answer memory lacking before after =
    IsErrnoOf answer memory lacking before after errno
