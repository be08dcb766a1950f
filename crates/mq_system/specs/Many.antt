-- What calls of a queue leave that are made one after another under one hold of its slot's lock.
use Rattle.std.specs.Prelude.{◌≡◌, ℕ, ◌<◌, min, Bool, List, ◌∷◌, ◌++◌, length, Result, MatchResult}
use Rattle.std.specs.List.{FoldsTo}
use Rattle.mq_arena.specs.Text.{PlainText}
use Rattle.mq_message.specs.declared.message.Message.{Message}
use Rattle.mq_message.specs.declared.selection.Selection.{Selection}
use Rattle.mq_queue.specs.declared.event.Event.{Event}
use Rattle.mq_table.specs.Kept.{KeptSlot}
use Rattle.mq_calls.specs.declared.results.Delivered.{Delivered}
use Rattle.mq_calls.specs.declared.results.Refused.{Refused}
use Rattle.mq_system.specs.Answer.{SlotAnswer, receive_in_slot, send_in_slot}
use Rattle.mq_system.specs.Answer.{refused_or_memory_in_slot}
use Rattle.mq_system.specs.Held.{HasChanged}
use Rattle.mq_system.specs.Seat.{SeatState, noted_more}
use Rattle.mq_system.specs.Shared.{LockedSlot, all_events, locked_all, unpublished}
use Rattle.mq_system.specs.declared.many.Letter.{Letter}

-- a slot under its lock, and the seat of the caller that holds it
pub record Under : Type 0 where
  pub slot : LockedSlot
  pub seat : SeatState

-- a slot of which these entries are published, and the seat, once it has noted the others
abbrev pub under_all : List Event → KeptSlot PlainText → SeatState → Under
under_all published slot seat = record {
  slot = locked_all published slot;
  seat = noted_more seat slot.number (length (unpublished (length published) slot))
      (all_events published slot);
}

-- what is decided for a call, by the state when it is called
abbrev pub Decides : Type 0 → Type 0
Decides T = Under → SlotAnswer T

-- the call answered that, and changed the slot
abbrev pub Changes : {T : Type 0} → Decides T → Under → T → Under → Type 0
Changes decides before value after =
    HasChanged (decides before) before.slot after.slot before.seat after.seat value

-- it is refused, as was decided or for memory
abbrev pub IsRefusedBy : {T : Type 0} → Decides T → Under → Refused → Type 0
IsRefusedBy decides u r = r ≡ refused_or_memory_in_slot u.slot.whole (decides u)

-- msgrcv, of the state when it is called
abbrev pub receive_of : ℕ → ℕ → Selection → Bool → ℕ → Decides (Delivered PlainText)
receive_of id size selection noerror moment u =
    receive_in_slot u.slot.whole id size selection noerror u.seat.number moment

-- up to n receipts, one after another; the first refusal ends it
pub record HasReceivedMany (id size : ℕ) (selection : Selection) (noerror : Bool) (moment n : ℕ)
    (before after : Under) (ds : List (Delivered PlainText)) (ended : Result (Unit {0}) Refused)
    : Type 0 where
  pub turns : FoldsTo (Changes (receive_of id size selection noerror moment)) before ds after
  pub all : MatchResult ended (λ _. length ds ≡ n) (λ _. length ds < n)
  pub refused : MatchResult ended (λ _. Unit {0})
      (IsRefusedBy (receive_of id size selection noerror moment) after)

-- a letter of a seat, as a message
abbrev pub message_of : ℕ → Letter PlainText → Message PlainText
message_of seat l = record { mtype = l.mtype; sender = seat; tag = l.tag; body = l.text }

-- msgsnd of a letter, of the state when it is called
abbrev pub send_of : ℕ → ℕ → Letter PlainText → Decides ℕ
send_of id moment l u = send_in_slot u.slot.whole id (message_of u.seat.number l) moment

-- a letter was sent: its entry is the next of the slot
abbrev pub Sends : ℕ → ℕ → Under → Letter PlainText → Under → Type 0
Sends id moment before l after =
    Changes (send_of id moment l) before (length before.slot.whole.events) after

-- the first of those that are left is refused
pub record IsFirstRefused (id moment : ℕ) (u : Under) (left : List (Letter PlainText)) (r : Refused)
    : Type 0 where
  pub first : Letter PlainText
  pub others : List (Letter PlainText)
  pub is : left ≡ first ∷ others
  pub refused : IsRefusedBy (send_of id moment first) u r

-- up to so many letters were sent, one after another; the first refusal ends it, and the rest is
-- left
pub record HasSentMany (id moment most : ℕ) (before after : Under)
    (letters left : List (Letter PlainText)) (ended : Result (Unit {0}) Refused) : Type 0 where
  pub sent : List (Letter PlainText)
  pub split : letters ≡ sent ++ left
  pub turns : FoldsTo (Sends id moment) before sent after
  pub all : MatchResult ended (λ _. length sent ≡ min (length letters) most)
      (λ _. length sent < most)
  pub refused : MatchResult ended (λ _. Unit {0}) (IsFirstRefused id moment after left)
