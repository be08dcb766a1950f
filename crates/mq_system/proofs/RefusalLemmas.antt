-- Which refusals a send and a receipt may have.
use Rattle.std.proofs.Common.{◌≡◌, ℕ, ℤ, pos, int_lt, nat_le, nat_lt, if◌then◌else◌, ◌||◌, ◌<◌, Bool, true, false, true≢false, List, [], ◌∷◌, ◌++◌, length, Option, None, Some, Result, Ok, Err, refl, sym, ap, subst, ◌∙◌, arith}
use Rattle.std.specs.Prelude.{IsSome}
use Rattle.std.proofs.lemmas.Bool.Decides.{nat_tests}
use Rattle.mq_arena.specs.Text.{PlainText}
use Rattle.mq_message.specs.declared.message.Message.{Message}
use Rattle.mq_message.specs.Selection.{pick}
use Rattle.mq_message.specs.declared.header.Header.{Header}
use Rattle.mq_message.specs.declared.selection.Selection.{Selection}
use Rattle.mq_queue.specs.Answer.{handed_out, send_refusal}
use Rattle.mq_queue.specs.Room.{has_room, quota}
use Rattle.mq_queue.specs.Row.{last_log}
use Rattle.mq_queue.specs.Waiting.{waiting}
use Rattle.mq_queue.specs.declared.error.QueueError.{QueueError}
use Rattle.mq_queue.specs.declared.error.QueueError.TheVariants.{TypeInvalid, TooLong, Full}
use Rattle.mq_queue.specs.declared.event.Event.{Event}
use Rattle.mq_queue.specs.declared.event.Event.TheVariants as event
use Rattle.mq_queue.specs.declared.limits.TheConstants.{MSGMAX}
use Rattle.mq_table.specs.Calls.{with_event, received, sends, changed_unless}
use Rattle.mq_table.specs.Ids.{seq_of, slot_of}
use Rattle.mq_table.specs.Slot.{SlotState}
use Rattle.mq_table.specs.SlotList.{by_standing, standing}
use Rattle.mq_table.specs.declared.refusal.IdRefusal.{IdRefusal}
use Rattle.mq_table.specs.declared.refusal.IdRefusal.TheVariants.{Never, Removed}
use Rattle.mq_calls.specs.Calls.{delivers}
use Rattle.mq_calls.specs.Look.{once}
use Rattle.mq_calls.specs.Texts.{bytes_of}
use Rattle.mq_calls.specs.declared.errno.Errno.{Errno}
use Rattle.mq_calls.specs.declared.errno.Errno.TheVariants.{EAGAIN, ENOMSG}
use Rattle.mq_calls.specs.declared.results.Refused.{Refused}
use Rattle.mq_system.specs.Answer.{SlotAnswer, answered_in_slot, by_id_in_slot, in_slot_queue, receive_in_slot, refused_or_memory_in_slot, send_in_slot}
use Rattle.mq_system.specs.Outcome.{IsLook, IsTurnedAway}
use Rattle.mq_system.specs.Refusals.{MayReceive, MaySend, Refuses, never_sent, out_of_slots}
use Rattle.mq_system.specs.Seat.{SeatState}
use Rattle.mq_system.specs.Seen.{IsDecided, Verdict}

-- an id of one of the slots, and a message that its type does not refuse
pub in_slots : (slots id : ℕ) → slot_of id < slots → out_of_slots slots id ≡ false
in_slots slots id low = grind (arith, nat_tests, low)

pub may_be_sent : (slots id : ℕ) (mtype : ℤ) → int_lt mtype (pos 1) ≡ false → slot_of id < slots
    → never_sent slots id mtype ≡ false
may_be_sent slots id mtype positive low = rw (positive, in_slots slots id low) refl

refuses_late : (early : Bool) (may : Errno → Type 0) (r : Refused) → early ≡ false
    → IsSome r.entry × may r.errno → Refuses early may r
refuses_late false may r late refused = refused
refuses_late true may r late refused = absurd (true≢false late)

-- a call that was not refused early was refused under the slot's lock
pub turned_away : (early : Bool) (may : Errno → Type 0) (slot : ℕ) (verdict : Verdict)
    (old new : SeatState) (r : Refused) → early ≡ false → IsLook old new
    → IsSome r.entry × may r.errno → IsDecided old new slot verdict r
    → IsTurnedAway early may slot verdict old new r
turned_away early may slot verdict old new r late look refused decided = record {
  look = look;
  refuses = refuses_late early may r late refused;
  decided = decided;
}

pub or_right : (a b : Bool) → b ≡ true → (a || b) ≡ true
or_right true b h = refl
or_right false b h = h

-- what refuses a send in its queue
abbrev RefusesSend : Option QueueError → Type 0
RefusesSend None = Unit {0}
RefusesSend (Some TypeInvalid) = Unit {0}
RefusesSend (Some TooLong) = Unit {0}
RefusesSend (Some Full) = Unit {0}
RefusesSend _ = ⊥

refuses_send : (headers : List Header) (most : ℕ) (mtype : ℤ) (n : ℕ)
    → RefusesSend (send_refusal headers most mtype n)
refuses_send headers most mtype n = by (int_lt mtype (pos 1)) refl
  where
    by_room : (b : Bool) → has_room headers n most ≡ b → int_lt mtype (pos 1) ≡ false
        → nat_lt MSGMAX n ≡ false → RefusesSend (send_refusal headers most mtype n)
    by_room true fits sent short = rw (sent, short, fits) tt
    by_room false full sent short = rw (sent, short, full) tt

    by_length : (b : Bool) → nat_lt MSGMAX n ≡ b → int_lt mtype (pos 1) ≡ false
        → RefusesSend (send_refusal headers most mtype n)
    by_length true long sent = rw (sent, long) tt
    by_length false short sent = by_room (has_room headers n most) refl sent short

    by : (b : Bool) → int_lt mtype (pos 1) ≡ b → RefusesSend (send_refusal headers most mtype n)
    by true low = rw low tt
    by false sent = by_length (nat_lt MSGMAX n) refl sent

pub if_false : {A : Type 0} (b : Bool) (x y : A) → b ≡ false → (if b then x else y) ≡ y
if_false b x y h = rw h refl

module _ (s : SlotState PlainText) (nowait : Bool) where
  -- an errno that a send may have, after some entries
  abbrev SendMay : Refused → Type 0
  SendMay r = IsSome r.entry × MaySend nowait r.errno

  in_queue_may : (looked : Result (Unit {0}) IdRefusal) (o : Option QueueError)
      (after : SlotState PlainText) → RefusesSend o
      → ((refused_or_memory_in_slot s
      (once (by_id_in_slot s looked) (answered_in_slot s (changed_unless o s after)))).errno
      ≡ EAGAIN → nowait ≡ true)
      → SendMay (refused_or_memory_in_slot s
      (once (by_id_in_slot s looked) (answered_in_slot s (changed_unless o s after))))
  in_queue_may (Err Never) o after h again = (refl, tt)
  in_queue_may (Err Removed) o after h again = (refl, tt)
  in_queue_may (Ok _) None after h again = (refl, tt)
  in_queue_may (Ok _) (Some TypeInvalid) after h again = (refl, tt)
  in_queue_may (Ok _) (Some TooLong) after h again = (refl, tt)
  in_queue_may (Ok _) (Some Full) after h again = (refl, again refl)
  in_queue_may (Ok _) (Some _) after h again = absurd h

  pub send_may : (id : ℕ) (m : Message PlainText) (moment : ℕ) (r : Refused)
      → int_lt m.mtype (pos 1) ≡ false
      → r ≡ refused_or_memory_in_slot s (send_in_slot s id m moment)
      → (r.errno ≡ EAGAIN → nowait ≡ true) → SendMay r
  send_may id m moment r sent is again =
      let log = last_log s.events in
      let n = length (bytes_of m.body) in
      let after : SlotState PlainText =
      with_event s (event.Sent m.sender moment m.tag m.mtype n)
      (s.messages ++ (length log, m) ∷ []) in
      let answer : SlotAnswer ℕ = in_slot_queue s id (sends bytes_of s m moment) in
      let its : r ≡ refused_or_memory_in_slot s answer =
      is
      ∙ ap (λ a. refused_or_memory_in_slot s a) (if_false (int_lt m.mtype (pos 1)) _ answer sent) in
      subst SendMay (sym its)
      (in_queue_may (by_standing (standing s.events (seq_of id)))
      (send_refusal (waiting log) (quota log) m.mtype n) after
      (refuses_send (waiting log) (quota log) m.mtype n)
      (λ same. again (ap (λ (x : Refused). x.errno) its ∙ same)))

module _ (s : SlotState PlainText) (nowait : Bool) where
  -- an errno that a receive may have, after some entries
  abbrev ReceiveMay : Bool → Refused → Type 0
  ReceiveMay noerror r = IsSome r.entry × MayReceive nowait noerror r.errno

  -- how a receiver is refused where its selection picks this
  abbrev picked : Result (Unit {0}) IdRefusal → (Header → Event) → ℕ → Bool → Option Header → Refused
  picked looked e size noerror o =
      refused_or_memory_in_slot s
      (once (by_id_in_slot s looked) (answered_in_slot s (delivers s.messages size (length s.events) (received s e (handed_out size noerror o)))))

  picked_may : (looked : Result (Unit {0}) IdRefusal) (e : Header → Event) (size : ℕ)
      (noerror : Bool) (o : Option Header)
      → ((picked looked e size noerror o).errno ≡ ENOMSG → nowait ≡ true)
      → ReceiveMay noerror (picked looked e size noerror o)
  picked_may (Err Never) e size noerror o again = (refl, tt)
  picked_may (Err Removed) e size noerror o again = (refl, tt)
  picked_may (Ok _) e size noerror None again = (refl, again refl)
  picked_may (Ok _) e size true (Some m) again = (refl, tt)
  picked_may (Ok _) e size false (Some m) again = by (nat_le m.length size) refl
    where
      by : (b : Bool) → nat_le m.length size ≡ b
          → ReceiveMay false (picked (Ok tt) e size false (Some m))
      by true fits = rw fits (refl, tt)
      by false long = rw long (refl, refl)

  pub receive_may : (id size : ℕ) (selection : Selection) (noerror : Bool) (seat moment : ℕ)
      (r : Refused)
      → r ≡ refused_or_memory_in_slot s (receive_in_slot s id size selection noerror seat moment)
      → (r.errno ≡ ENOMSG → nowait ≡ true) → ReceiveMay noerror r
  receive_may id size selection noerror seat moment r is again =
      subst (ReceiveMay noerror) (sym is)
      (picked_may (by_standing (standing s.events (seq_of id)))
      (λ m. event.Received seat noerror moment m.place selection size) size noerror
      (pick (λ m. m.mtype) (waiting (last_log s.events)) selection)
      (λ same. again (ap (λ (x : Refused). x.errno) is ∙ same)))
