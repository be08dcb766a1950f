-- What a call requires of pending messages and what it leaves of them, in whichever form they are
-- held.
use Rattle.std.specs.Prelude.{◌≡◌, ℕ, ℤ, ◌<◌, ◌++◌, ◌∷◌, [], All, IfNone, OnErr, OnOk}
use Rattle.std.specs.Prelude.{Option, Some, None, Result, option_to_list}
use Rattle.mq_message.specs.declared.message.Message.{Message}
use Rattle.mq_message.specs.Waiting.{message_at, without, Listed}

-- no message is pending, and there is no room
pub record IsFresh {B : Type 0} (new : Listed B) : Type 0 where
  pub empty : new.messages ≡ []
  pub unprepared : new.prepared ≡ None

-- there is room for this message, and its place is above those of all pending ones
pub record CanPut {B : Type 0} (place : ℕ) (message : Message B) (old : Listed B) : Type 0 where
  pub prepared : old.prepared ≡ Some message.mtype
  pub above : All (λ m. m.0 < place) old.messages

-- the message was put at the end, in that room
pub record IsPut {B : Type 0} (place : ℕ) (message : Message B) (old new : Listed B) : Type 0 where
  pub added : new.messages ≡ old.messages ++ (place, message) ∷ []
  pub unprepared : new.prepared ≡ None

-- the message at this place was taken out
pub record IsTaken {B : Type 0} (place : ℕ) (message : Message B) (old new : Listed B) :
    Type 0 where
  pub taken : message_at place old.messages ≡ Some message
  pub rest : new.messages ≡ without place old.messages
  pub unprepared : new.prepared ≡ None

-- the first message was taken out with its place, if there was one
pub record IsPopped {B : Type 0} (popped : Option (ℕ × Message B)) (old new : Listed B) :
    Type 0 where
  pub none : IfNone popped (new.messages ≡ [])
  pub first : old.messages ≡ option_to_list popped ++ new.messages
  pub unprepared : new.prepared ≡ None

-- room was made for one more message of this type, or the allocation failed
pub record IsPrepared {B T E : Type 0} (mtype : ℤ) (result : Result T E) (old new : Listed B) :
    Type 0 where
  pub unchanged : new.messages ≡ old.messages
  pub ok : OnOk result (new.prepared ≡ Some mtype)
  pub err : OnErr result (new.prepared ≡ old.prepared)

-- the same messages, with no room for one more
pub record IsUnprepared {B : Type 0} (old new : Listed B) : Type 0 where
  pub unchanged : new.messages ≡ old.messages
  pub unprepared : new.prepared ≡ None

-- the same messages, held in another form, with room for one more of this type
pub record HasCrossed {B : Type 0} (mtype : ℤ) (old new : Listed B) : Type 0 where
  pub messages : new.messages ≡ old.messages
  pub prepared : new.prepared ≡ Some mtype
