-- Pending messages that are all of one type.
use Rattle.std.specs.Prelude.{◌≡◌, ℕ, ℤ, pos, int_le, Bool, true, not, Option, List}
use Rattle.std.specs.Ordering.{int_eq}
use Rattle.mq_message.specs.declared.message.Message.{Message}
use Rattle.mq_message.specs.declared.selection.Selection.{Selection}
use Rattle.mq_message.specs.declared.selection.Selection.TheVariants.{Any, Exact, Except, UpTo}
use Rattle.mq_message.specs.Waiting.{Listed}

-- the messages, the prepared type, if there is one, and the type that all of the messages have
pub record Same (B : Type 0) : Type 0 where
  pub messages : List (ℕ × Message B)
  pub prepared : Option ℤ
  pub mtype : ℤ

-- the messages and the prepared type alone
abbrev pub listed_of : {B : Type 0} → Same B → Listed B
listed_of same = record { messages = same.messages; prepared = same.prepared }

-- this was done to the messages and the prepared type, and the type of all stays
pub record KeepsType {B : Type 0} (Done : Listed B → Listed B → Type 0) (old new : Same B) :
    Type 0 where
  pub done : Done (listed_of old) (listed_of new)
  pub mtype : new.mtype ≡ old.mtype

-- whether a selection picks messages of this type, where no others are pending
abbrev pub picks : Selection → ℤ → Bool
picks Any mtype = true
picks (Exact wanted) mtype = int_eq mtype wanted
picks (Except other) mtype = not (int_eq mtype other)
picks (UpTo bound) mtype = int_le mtype (pos bound)
