-- What the senders of a system pledge of their texts.
use Rattle.std.specs.Prelude.{◌≡◌, ℕ, ℤ, Bool, false, List, length, take}
use Rattle.mq_arena.specs.Text.{PlainText}
use Rattle.mq_message.specs.declared.message.Message.{Message}
use Rattle.mq_calls.specs.declared.results.Delivered.{Delivered}

-- a fact of a sender's seat, its tag, the type and the text's bytes
abbrev pub Pledged : Type 1
Pledged = ℕ → ℕ → ℤ → List ℕ → Type 0

-- the pledge holds of a message
abbrev pub IsPledged : Pledged → Message PlainText → Type 0
IsPledged kept m = kept m.sender m.tag m.mtype m.body.bytes

-- the text that is returned is the beginning, up to the receiver's size, of a text of which the
-- pledge holds
pub record MeetsPledge (kept : Pledged) (size : ℕ) (d : Delivered PlainText) : Type 0 where
  pub whole : List ℕ
  pub long : length whole ≡ d.length
  pub pledge : kept d.sender d.tag d.mtype whole
  pub cut : d.text.bytes ≡ take size whole

-- the pledge holds of the very text that is returned
abbrev pub MeetsWhole : Pledged → Delivered PlainText → Type 0
MeetsWhole kept d = kept d.sender d.tag d.mtype d.text.bytes

-- the pledge is met by what is returned, and by the very text where none may be truncated
pub record MeetsItsPledge (kept : Pledged) (size : ℕ) (noerror : Bool) (d : Delivered PlainText)
    : Type 0 where
  pub part : MeetsPledge kept size d
  pub uncut : noerror ≡ false → MeetsWhole kept d
