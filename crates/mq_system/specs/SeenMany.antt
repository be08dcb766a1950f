-- What a call that does several did, as its caller's seat shows it.
use Rattle.std.specs.Prelude.{◌≡◌, ℕ, ◌+◌, ◌<◌, ◌||◌, nat_lt, min, Bool, List, [], ◌∷◌, ◌++◌}
use Rattle.std.specs.Prelude.{length, Option, None, Some, Result, MatchResult}
use Rattle.std.specs.List.{FoldsTo}
use Rattle.mq_arena.specs.Text.{PlainText}
use Rattle.mq_message.specs.declared.selection.Selection.{Selection}
use Rattle.mq_table.specs.Ids.{slot_of}
use Rattle.mq_calls.specs.declared.results.Delivered.{Delivered}
use Rattle.mq_calls.specs.declared.results.Refused.{Refused}
use Rattle.mq_system.specs.Outcome.{IsLook, IsNotReceived, IsNotSent, IsReceived, IsSent}
use Rattle.mq_system.specs.Pledge.{Pledged}
use Rattle.mq_system.specs.Seat.{SeatState, front_of}
use Rattle.mq_system.specs.declared.many.Letter.{Letter}

-- a change of a seat that knew all of the slot, at the next entry, and it knows all again
pub record IsNextThere (slot : ℕ) (old new : SeatState) (entry : ℕ) : Type 0 where
  pub before : length (front_of old slot) ≡ entry
  pub after : length (front_of new slot) ≡ entry + 1

-- one receipt of several
pub record IsNextReceived (kept : Pledged) (slots id size : ℕ) (selection : Selection)
    (noerror : Bool) (moment : ℕ) (old : SeatState) (d : Delivered PlainText) (new : SeatState)
    : Type 0 where
  pub received : IsReceived kept slots id size selection noerror moment old new d
  pub next : IsNextThere (slot_of id) old new d.entry

-- up to n messages were received: the seat read, and then so many calls of msgrcv returned them one
-- after another at consecutive entries; the first refusal ended it
pub record AreReceived (kept : Pledged) (slots id size : ℕ) (selection : Selection)
    (noerror nowait : Bool) (moment n : ℕ) (old new : SeatState) (ds : List (Delivered PlainText))
    (ended : Result (Unit {0}) Refused) : Type 0 where
  pub now : SeatState
  pub look : IsLook old now
  pub turns : FoldsTo (IsNextReceived kept slots id size selection noerror moment) now ds new
  pub all : MatchResult ended (λ _. length ds ≡ n) (λ _. length ds < n)
  pub refused : MatchResult ended (λ _. Unit {0})
      (IsNotReceived slots id size selection noerror (nowait || nat_lt 0 (length ds)) new new)

-- one letter of several was sent, at the next entry
pub record IsNextSent (slots id moment : ℕ) (old : SeatState) (l : Letter PlainText)
    (new : SeatState) : Type 0 where
  pub entry : ℕ
  pub sent : IsSent slots id l.mtype l.tag (length l.text.bytes) moment old new entry
  pub next : IsNextThere (slot_of id) old new entry

-- the first of those that are left was refused
pub record IsFirstNotSent (slots id : ℕ) (nowait : Bool) (seat : SeatState)
    (left : List (Letter PlainText)) (r : Refused) : Type 0 where
  pub first : Letter PlainText
  pub others : List (Letter PlainText)
  pub is : left ≡ first ∷ others
  pub refused : IsNotSent slots id first.mtype (length first.text.bytes) nowait seat seat r

-- the entry of the first that was sent, which is the next that the slot had, if any was
abbrev pub IsFirstEntry : ℕ → List (Letter PlainText) → Option ℕ → Type 0
IsFirstEntry next [] first = first ≡ None
IsFirstEntry next (l ∷ ls) first = first ≡ Some next

-- up to so many letters were sent: the seat read, and then so many calls of msgsnd sent them one
-- after another at consecutive entries; the first refusal ended it, and the rest is left
pub record AreSent (slots id : ℕ) (nowait : Bool) (moment most : ℕ) (old new : SeatState)
    (letters left : List (Letter PlainText)) (first : Option ℕ) (ended : Result (Unit {0}) Refused)
    : Type 0 where
  pub now : SeatState
  pub look : IsLook old now
  pub sent : List (Letter PlainText)
  pub split : letters ≡ sent ++ left
  pub entry : IsFirstEntry (length (front_of now (slot_of id))) sent first
  pub turns : FoldsTo (IsNextSent slots id moment) now sent new
  pub all : MatchResult ended (λ _. length sent ≡ min (length letters) most)
      (λ _. length sent < most)
  pub refused : MatchResult ended (λ _. Unit {0})
      (IsFirstNotSent slots id (nowait || nat_lt 0 (length sent)) new left)
