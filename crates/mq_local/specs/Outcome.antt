-- How a call turns out: it answers and leaves what its definition says, or it is refused.
use Rattle.std.specs.Prelude.{◌≡◌, ℕ, Result, Ok, Err}
use Rattle.mq_arena.specs.Text.{PlainText}
use Rattle.mq_queue.specs.Memory.{or_memory}
use Rattle.mq_table.specs.Cut.{cut_shown}
use Rattle.mq_table.specs.declared.cut.Cut.{Cut}
use Rattle.mq_calls.specs.Calls.{cut_log}
use Rattle.mq_calls.specs.Look.{Answer, refused_in}
use Rattle.mq_calls.specs.State.{QueuesState}
use Rattle.mq_calls.specs.declared.errno.Errno.TheVariants.{ENOMEM}
use Rattle.mq_calls.specs.declared.results.Refused.{Refused}
use Rattle.mq_calls.specs.declared.results.SendRefused.{SendRefused}

-- a call was refused as its definition says, or else for memory, and left all as it was
pub record IsRefusalOf {T E : Type 0} (answer : Result (T × QueuesState) E) (memory : E)
    (before after : QueuesState) (refusal : E) : Type 0 where
  pub refused : refusal ≡ or_memory memory answer
  pub unchanged : after ≡ before

-- a call answers and leaves so, or is refused
abbrev pub Answers : {T E : Type 0} → Result (T × QueuesState) E → E → QueuesState → QueuesState
    → Result T E
    → Type 0
Answers answer memory before after (Ok told) = answer ≡ Ok (told, after)
Answers answer memory before after (Err refusal) = IsRefusalOf answer memory before after refusal

-- a text was not sent, and is returned
pub record IsSentBack (answer : Answer ℕ) (memory : Refused) (before after : QueuesState)
    (text : PlainText) (refusal : SendRefused PlainText) : Type 0 where
  pub refused : refusal.refused ≡ or_memory memory answer
  pub handed_back : refusal.text ≡ text
  pub unchanged : after ≡ before

-- the same of a text that is sent
abbrev pub AnswersSend : Answer ℕ → Refused → QueuesState → QueuesState → PlainText
    → Result ℕ (SendRefused PlainText) → Type 0
AnswersSend answer memory before after text (Ok entry) = answer ≡ Ok (entry, after)
AnswersSend answer memory before after text (Err refusal) =
    IsSentBack answer memory before after text refusal

-- a slot's list is drained, and what was kept of it is returned; only memory can refuse that
abbrev pub AnswersCut : QueuesState → ℕ → QueuesState → Result Cut Refused → Type 0
AnswersCut before k after (Ok cut) = cut_log before k ≡ (cut_shown cut, after)
AnswersCut before k after (Err refusal) =
    IsRefusalOf (Ok (cut_log before k)) (refused_in before k ENOMEM) before after refusal
