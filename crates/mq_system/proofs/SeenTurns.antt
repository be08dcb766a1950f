-- What a seat knows of several changes that it made under one hold of a slot's lock.
use Rattle.std.proofs.Common.{◌≡◌, ℕ, ◌+◌, ◌≤◌, ◌<◌, ◌||◌, min, nat_lt, pos, int_lt, Bool, true, false, List, [], ◌∷◌, All, length, Option, None, Some, Result, Ok, Err, MatchResult, refl, ap, sym, ◌∙◌, subst, arith, length-set}
use Rattle.std.proofs.Math.Nat.{zero-min}
use Rattle.std.proofs.lemmas.Bool.Decides.{nat_tests}
use Rattle.std.proofs.lemmas.List.Elements.{All-head, All-tail}
use Rattle.std.specs.List.{FoldsTo}
use Rattle.mq_arena.specs.Text.{PlainText}
use Rattle.mq_message.specs.declared.selection.Selection.{Selection}
use Rattle.mq_table.specs.Ids.{seq_of, slot_of}
use Rattle.mq_calls.specs.declared.errno.Errno.TheVariants.{EAGAIN, EINVAL, ENOMSG}
use Rattle.mq_calls.specs.declared.results.Delivered.{Delivered}
use Rattle.mq_calls.specs.declared.results.Refused.{Refused}
use Rattle.mq_calls.specs.Look.{refused_early}
use Rattle.mq_system.specs.Answer.{SlotAnswer}
use Rattle.mq_system.specs.Held.{HasChanged}
use Rattle.mq_system.specs.Outcome.{IsNotSent, IsUnderLock}
use Rattle.mq_system.specs.Seen.{IsDecided, send_verdict}
use Rattle.mq_system.specs.Pledge.{MeetsItsPledge, Pledged}
use Rattle.mq_system.specs.Refusals.{MaySend, Refuses, never_sent, out_of_slots}
use Rattle.mq_system.specs.Seat.{SeatState}
use Rattle.mq_system.specs.Many.{Changes, HasReceivedMany, HasSentMany, IsRefusedBy, Sends, Under, message_of, receive_of, send_of}
use Rattle.mq_system.specs.SeenMany.{AreReceived, AreSent, IsFirstEntry, IsNextReceived, IsNextSent}
use Rattle.mq_system.specs.declared.many.Letter.{Letter}
use Rattle.mq_system.proofs.LaterLemmas.{front_set, look_self}
use Rattle.mq_system.proofs.RefusalLemmas.{may_be_sent, or_right, receive_may, send_may, turned_away}
use Rattle.mq_system.proofs.SeenLemmas.{decided_receive, decided_send, done_receive, done_send}
use Rattle.mq_system.proofs.NextLemmas.{received_next, sent_next, sent_positive}

-- the seat still knows all of the slot
abbrev StillHolds : ℕ → Under → Type 0
StillHolds slot u = IsUnderLock u.seat u.seat slot u.slot.whole

now_holds : (old : SeatState) (u : Under) (slot : ℕ) → IsUnderLock old u.seat slot u.slot.whole
    → StillHolds slot u
now_holds old u slot h =
    record { look = look_self u.seat; low = h.low; number = h.number; known = h.known }

holds_on : {T : Type 0} (slot : ℕ) (decided : SlotAnswer T) (u v : Under) (value : T)
    → StillHolds slot u → HasChanged decided u.slot v.slot u.seat v.seat value → StillHolds slot v
holds_on slot decided u v value h told =
    let learned = rw h.number at told.noted.learned in
    record {
      look = look_self v.seat;
      low = rw (ap length learned, length-set u.seat.fronts slot v.slot.whole.events) h.low;
      number = told.number ∙ h.number;
      known = front_set u.seat v.seat slot v.slot.whole.events h.low learned;
    }

module _ (kept : Pledged) (slots id size : ℕ) (selection : Selection) (noerror : Bool) (moment : ℕ) (early : out_of_slots slots id ≡ false)
  where
    received_turns : (ds : List (Delivered PlainText)) (u v : Under) → StillHolds (slot_of id) u
        → All (MeetsItsPledge kept size noerror) ds
        → FoldsTo (Changes (receive_of id size selection noerror moment)) u ds v
        → FoldsTo (IsNextReceived kept slots id size selection noerror moment) u.seat ds v.seat
        × StillHolds (slot_of id) v
    received_turns [] u v h kept_all is =
        (ap (λ (x : Under). x.seat) is, subst (StillHolds (slot_of id)) is h)
    received_turns (d ∷ ds) u v h kept_all turns =
        let m = turns.0 in
        let told = turns.1 in
        let done = done_receive u.seat u.seat m.seat (slot_of id) u.slot.whole h id size selection noerror moment d m.slot.whole told.noted told.ok in
        let at = received_next u.slot.whole id size selection noerror u.seat.number moment d m.slot.whole told.ok in
        let on = holds_on (slot_of id) (receive_of id size selection noerror moment u) u m d h told in
        let its = All-head (MeetsItsPledge kept size noerror) d ds kept_all in
        let rest = received_turns ds m v on (All-tail (MeetsItsPledge kept size noerror) d ds kept_all) turns.2 in (
          (
            m.seat,
            record {
              received = record {
                early = early;
                step = done.0;
                receipt = done.1;
                pledge = its.part;
                whole = its.uncut;
              };
              next = record {
                before = ap length h.known ∙ sym at.0;
                after = ap length on.known ∙ at.1 ∙ ap (λ n. n + 1) (sym at.0);
              };
            },
            rest.0,
          ),
          rest.1,
        )

    received_most : (nowait : Bool) (n : ℕ) (old : SeatState) (u v : Under)
        (ds : List (Delivered PlainText)) (ended : Result (Unit {0}) Refused)
        → IsUnderLock old u.seat (slot_of id) u.slot.whole → All (MeetsItsPledge kept size noerror) ds
        → HasReceivedMany id size selection noerror moment n u v ds ended
        → MatchResult ended (λ _. Unit {0}) (λ r. r.errno ≡ ENOMSG → (nowait || nat_lt 0 (length ds)) ≡ true)
        → AreReceived kept slots id size selection noerror nowait moment n old v.seat ds ended
    received_most nowait n old u v ds (Ok _) h kept_all done again =
        let its = received_turns ds u v (now_holds old u (slot_of id) h) kept_all done.turns in record {
          now = u.seat;
          look = h.look;
          turns = its.0;
          all = done.all;
          refused = tt;
        }
    received_most nowait n old u v ds (Err r) h kept_all done again =
        let its = received_turns ds u v (now_holds old u (slot_of id) h) kept_all done.turns in
        let may = receive_may v.slot.whole (nowait || nat_lt 0 (length ds)) id size selection noerror v.seat.number moment r done.refused again in
        record {
          now = u.seat;
          look = h.look;
          turns = its.0;
          all = done.all;
          refused =
              turned_away _ _ _ _ v.seat v.seat r early (look_self v.seat) may
              (decided_receive v.seat v.seat v.seat (slot_of id) v.slot.whole its.1 id size selection noerror
              v.seat.number moment r its.1.known done.refused);
        }

    pub received_many : (nowait : Bool) (n most : ℕ) (old : SeatState) (u v : Under)
        (ds : List (Delivered PlainText)) (ended : Result (Unit {0}) Refused) → most ≡ n
        → IsUnderLock old u.seat (slot_of id) u.slot.whole → All (MeetsItsPledge kept size noerror) ds
        → HasReceivedMany id size selection noerror moment most u v ds ended
        → MatchResult ended (λ _. Unit {0}) (λ r. r.errno ≡ ENOMSG → (nowait || nat_lt 0 (length ds)) ≡ true)
        → AreReceived kept slots id size selection noerror nowait moment n old v.seat ds ended
    received_many nowait n most old u v ds ended is h kept_all done again =
        subst (λ k. AreReceived kept slots id size selection noerror nowait moment k old v.seat ds ended) is
        (received_most nowait most old u v ds ended h kept_all done again)

module _ (slots id moment : ℕ) (low : slot_of id < slots) where
  sent_turns : (ls : List (Letter PlainText)) (u v : Under) → StillHolds (slot_of id) u
      → FoldsTo (Sends id moment) u ls v
      → FoldsTo (IsNextSent slots id moment) u.seat ls v.seat × StillHolds (slot_of id) v
  sent_turns [] u v h is =
      (ap (λ (x : Under). x.seat) is, subst (StillHolds (slot_of id)) is h)
  sent_turns (l ∷ ls) u v h turns =
      let m = turns.0 in
      let told = turns.1 in
      let entry = length u.slot.whole.events in
      let sent = sent_positive u.slot.whole id (message_of u.seat.number l) moment entry m.slot.whole told.ok in
      let done = done_send u.seat u.seat m.seat (slot_of id) u.slot.whole h id entry l.mtype l.tag moment l.text m.slot.whole sent told.noted told.ok in
      let at = sent_next u.slot.whole id (message_of u.seat.number l) moment entry m.slot.whole told.ok in
      let on = holds_on (slot_of id) (send_of id moment l u) u m entry h told in
      let rest = sent_turns ls m v on turns.2 in (
        (
          m.seat,
          record {
            entry = entry;
            sent = record {
              early = may_be_sent slots id l.mtype sent low;
              step = done.0;
              done = done.1;
            };
            next = record { before = ap length h.known; after = ap length on.known ∙ at.1 };
          },
          rest.0,
        ),
        rest.1,
      )

  not_sent : (nowait : Bool) (u : Under) (l : Letter PlainText) (r : Refused)
      → StillHolds (slot_of id) u → IsRefusedBy (send_of id moment l) u r
      → (r.errno ≡ EAGAIN → nowait ≡ true)
      → IsNotSent slots id l.mtype (length l.text.bytes) nowait u.seat u.seat r
  not_sent nowait u l r h why again = by (int_lt l.mtype (pos 1)) refl
    where
      decided : IsDecided u.seat u.seat (slot_of id) (send_verdict (seq_of id) l.mtype (length l.text.bytes)) r
      decided =
          decided_send u.seat u.seat u.seat (slot_of id) u.slot.whole h id (message_of u.seat.number l) moment r h.known why

      by : (b : Bool) → int_lt l.mtype (pos 1) ≡ b
          → IsNotSent slots id l.mtype (length l.text.bytes) nowait u.seat u.seat r
      by true small =
          let early : never_sent slots id l.mtype ≡ true = rw small refl in
          let is : r ≡ refused_early EINVAL = rw small at why in
          record {
            look = look_self u.seat;
            refuses = subst (λ b. Refuses b (MaySend nowait) r) (sym early) is;
            decided = decided;
          }
      by false sent =
          turned_away _ _ _ _ u.seat u.seat r (may_be_sent slots id l.mtype sent low)
          (look_self u.seat)
          (send_may u.slot.whole nowait id (message_of u.seat.number l) moment r sent why again) decided

  pub sent_many : (nowait : Bool) (most : ℕ) (old : SeatState) (u v : Under)
      (ls left : List (Letter PlainText)) (ended : Result (Unit {0}) Refused) (first : Option ℕ)
      → IsUnderLock old u.seat (slot_of id) u.slot.whole
      → (done : HasSentMany id moment most u v ls left ended)
      → IsFirstEntry (length u.slot.whole.events) done.sent first
      → MatchResult ended (λ _. Unit {0}) (λ r. r.errno ≡ EAGAIN → (nowait || nat_lt 0 (length done.sent)) ≡ true)
      → AreSent slots id nowait moment most old v.seat ls left first ended
  sent_many nowait most old u v ls left (Ok _) first h done entry again =
      let its = sent_turns done.sent u v (now_holds old u (slot_of id) h) done.turns in record {
        now = u.seat;
        look = h.look;
        sent = done.sent;
        split = done.split;
        entry = subst (λ n. IsFirstEntry n done.sent first) (ap length (sym h.known)) entry;
        turns = its.0;
        all = done.all;
        refused = tt;
      }
  sent_many nowait most old u v ls left (Err r) first h done entry again =
      let its = sent_turns done.sent u v (now_holds old u (slot_of id) h) done.turns in
      let why = done.refused in record {
        now = u.seat;
        look = h.look;
        sent = done.sent;
        split = done.split;
        entry = subst (λ n. IsFirstEntry n done.sent first) (ap length (sym h.known)) entry;
        turns = its.0;
        all = done.all;
        refused = record {
          first = why.first;
          others = why.others;
          is = why.is;
          refused =
              not_sent (nowait || nat_lt 0 (length done.sent)) v why.first r its.1 why.refused again;
        };
      }

pub out_slots : (slots id : ℕ) → slots ≤ slot_of id → out_of_slots slots id ≡ true
out_slots slots id high = grind (arith, nat_tests, high)

-- where the number of slots alone refuses the id, nothing is received
pub early_many : (kept : Pledged) (slots id size : ℕ) (selection : Selection) (noerror nowait : Bool)
    (moment n : ℕ) (seat : SeatState) (ds : List (Delivered PlainText)) (r : Refused) → ds ≡ []
    → r ≡ refused_early EINVAL → out_of_slots slots id ≡ true → 0 < n
    → AreReceived kept slots id size selection noerror nowait moment n seat seat ds (Err r)
early_many kept slots id size selection noerror nowait moment n seat ds r none is out some =
    rw (none, is)
    (record {
      now = seat;
      look = look_self seat;
      turns = refl;
      all = some;
      refused = record {
        look = look_self seat;
        refuses = rw out refl;
        decided = tt;
      };
    })

pub none_many : (kept : Pledged) (slots id size : ℕ) (selection : Selection) (noerror nowait : Bool)
    (moment n : ℕ) (seat : SeatState) (ds : List (Delivered PlainText)) → ds ≡ [] → n ≡ 0
    → AreReceived kept slots id size selection noerror nowait moment n seat seat ds (Ok tt)
none_many kept slots id size selection noerror nowait moment n seat ds none is =
    rw none
    (record {
      now = seat;
      look = look_self seat;
      turns = refl;
      all = sym is;
      refused = tt;
    })

pub some_more : (nowait : Bool) (n : ℕ) → 0 < n → (nowait || nat_lt 0 n) ≡ true
some_more nowait n some = or_right nowait (nat_lt 0 n) (grind (arith, nat_tests, some))

pub or_left : (a b : Bool) → a ≡ true → (a || b) ≡ true
or_left a b h = rw h refl

-- where the number of slots alone refuses the id, nothing is sent
pub early_letters : (slots id : ℕ) (nowait : Bool) (moment most : ℕ) (seat : SeatState)
    (ls left : List (Letter PlainText)) (r : Refused) → left ≡ ls → 0 < length ls → 0 < most
    → r ≡ refused_early EINVAL → out_of_slots slots id ≡ true
    → AreSent slots id nowait moment most seat seat ls left None (Err r)
early_letters slots id nowait moment most seat [] left r same some any is out =
    absurd (omega (arith, some))
early_letters slots id nowait moment most seat (l ∷ ls) left r same some any is out =
    let early : never_sent slots id l.mtype ≡ true = or_right (int_lt l.mtype (pos 1)) (out_of_slots slots id) out in
    rw (same, is)
    (record {
      now = seat;
      look = look_self seat;
      sent = [];
      split = refl;
      entry = refl;
      turns = refl;
      all = any;
      refused = record {
        first = l;
        others = ls;
        is = refl;
        refused = record {
          look = look_self seat;
          refuses = rw early refl;
          decided = tt;
        };
      };
    })

pub no_letters : (slots id : ℕ) (nowait : Bool) (moment most : ℕ) (seat : SeatState)
    (ls left : List (Letter PlainText)) → left ≡ ls → length ls ≡ 0
    → AreSent slots id nowait moment most seat seat ls left None (Ok tt)
no_letters slots id nowait moment most seat ls left same none = record {
  now = seat;
  look = look_self seat;
  sent = [];
  split = sym same;
  entry = refl;
  turns = refl;
  all = sym (ap (λ n. min n most) none ∙ zero-min most);
  refused = tt;
}

-- the entry of the first of some, and of none
pub first_of_some : (next : ℕ) (sent : List (Letter PlainText)) → 0 < length sent
    → IsFirstEntry next sent (Some next)
first_of_some next [] some = absurd (omega (arith, some))
first_of_some next (l ∷ ls) some = refl

pub first_of_none : (next : ℕ) (sent : List (Letter PlainText)) → sent ≡ []
    → IsFirstEntry next sent None
first_of_none next sent none = rw none refl
