-- A receipt by a call that was refused for a text's length, and was retried.
use Rattle.std.proofs.Common.{◌≡◌, inl, inr, ℕ, ◌≤◌, Bool, true, false, length, Option, None, Some, ap, subst, arith}
use Rattle.std.specs.Prelude.{MatchOption}
use Rattle.std.proofs.lemmas.List.{length-append, length-take}
use Rattle.mq_arena.specs.Text.{PlainText}
use Rattle.mq_message.specs.declared.selection.Selection.{Selection}
use Rattle.mq_queue.specs.declared.event.Event.{Event}
use Rattle.mq_queue.specs.declared.event.Event.TheVariants as event
use Rattle.mq_table.specs.Ids.{seq_of, slot_of}
use Rattle.mq_calls.specs.declared.errno.Errno.{Errno}
use Rattle.mq_calls.specs.declared.errno.Errno.TheVariants.{E2BIG}
use Rattle.mq_calls.specs.declared.results.Delivered.{Delivered}
use Rattle.mq_calls.specs.declared.results.Refused.{Refused}
use Rattle.mq_system.specs.Outcome.{IsLook, IsReceived, IsRefusal, IsTurnedAway}
use Rattle.mq_system.specs.Pledge.{Pledged}
use Rattle.mq_system.specs.Refusals.{MayReceive, Refuses}
use Rattle.mq_system.specs.Seat.{SeatState, front_of}
use Rattle.mq_system.specs.Seen.{IsDone, IsRefused, Verdict, receive_verdict}
use Rattle.mq_system.proofs.LaterLemmas.{look_self, look_trans, step_after}
use Rattle.mq.specs.Caller.{IsReceivedInto, IsTooLong}

-- after a read a seat knows as many events of a slot as before, or more
known_more : (a b : SeatState) (slot : ℕ) → IsLook a b
    → length (front_of a slot) ≤ length (front_of b slot)
known_more a b slot look =
    let p = look.later.later slot in
    omega (arith, ap length p.1, length-append (front_of a slot) p.0)

-- a change by a seat after a read
done_after : (a b c : SeatState) (slot : ℕ) (verdict : Verdict) (entry : ℕ) (e : Event)
    → IsLook a b → IsDone b c slot verdict entry e → IsDone a c slot verdict entry e
done_after a b c slot verdict entry e look done = record {
  late = omega (arith, done.late, known_more a b slot look);
  there = done.there;
  allowed = done.allowed;
}

-- a receipt by a seat after a read, with its bytes alone
pub received_after : (kept : Pledged) (slots id size : ℕ) (selection : Selection) (noerror : Bool)
    (moment : ℕ) (a b c : SeatState) (d : Delivered PlainText)
    → IsLook a b → IsReceived kept slots id size selection noerror moment b c d
    → IsReceivedInto kept slots id size selection noerror moment a c d d.text.bytes
received_after kept slots id size selection noerror moment a b c d look is =
    let its = is.receipt in
    let verdict : Verdict = receive_verdict (seq_of id) size selection noerror in record {
      fits = rw is.pledge.cut (omega (arith, length-take size is.pledge.whole));
      pledge = is.whole;
      received = record {
        early = is.early;
        step = step_after a b c (slot_of id) look is.step.counted is.step.later;
        receipt = record {
          message = its.message;
          done =
              subst (λ seat. IsDone a c (slot_of id) verdict d.entry
              (event.Received seat noerror moment its.message.place selection size)) look.same.number
              (done_after a b c (slot_of id) verdict d.entry
              (event.Received b.number noerror moment its.message.place selection size) look its.done);
          named = its.named;
          mtype = its.mtype;
          sender = its.sender;
          tag = its.tag;
          long = its.long;
        };
        pledge = record {
          whole = is.pledge.whole;
          long = is.pledge.long;
          pledge = is.pledge.pledge;
          cut = is.pledge.cut;
        };
        whole = is.whole;
      };
    }

-- a refusal of a seat after a read
pub turned_after : (early : Bool) (may : Errno → Type 0) (slot : ℕ) (verdict : Verdict)
    (a b c : SeatState) (r : Refused)
    → IsLook a b → IsTurnedAway early may slot verdict b c r
    → IsTurnedAway early may slot verdict a c r
turned_after early may slot verdict a b c r look is = record {
  look = look_trans a b c look is.look;
  refuses = is.refuses;
  decided = by r.entry is.decided;
}
  where
    by : (entry : Option ℕ)
        → MatchOption entry (Unit {0}) (λ e. IsRefused b c slot verdict e r.errno)
        → MatchOption entry (Unit {0}) (λ e. IsRefused a c slot verdict e r.errno)
    by None _ = tt
    by (Some e) its = record {
      late = omega (arith, its.late, known_more a b slot look);
      known = its.known;
      why = its.why;
    }

-- a seat that was refused for a text's length did no more than read
pub looked : (slots id most : ℕ) (selection : Selection) (noerror nowait : Bool) (a b : SeatState)
    → IsTooLong slots id most selection noerror nowait a b → IsLook a b
looked slots id most selection noerror nowait a b (inl same) = rw same (look_self a)
looked slots id most selection noerror nowait a b (inr p) = p.2.turned.look

-- a refusal for a text's length
pub too_long : (early : Bool) (may : Errno → Type 0) (slot : ℕ) (verdict : Verdict)
    (a c : SeatState) (r : Refused) → r.errno ≡ E2BIG → IsTurnedAway early may slot verdict a c r
    → IsRefusal early may slot verdict a c E2BIG
too_long early may slot verdict a c r long turned =
    subst (λ errno. IsRefusal early may slot verdict a c errno) long
    (record { entry = r.entry; turned = turned })

-- a call that truncates a longer text is not refused for its length
pub not_cut : (early ends noerror : Bool) (slot : ℕ) (verdict : Verdict) (a c : SeatState)
    (r : Refused) → IsTurnedAway early (MayReceive ends noerror) slot verdict a c r
    → r.errno ≡ E2BIG → noerror ≡ false
not_cut early ends noerror slot verdict a c r is long = by early is.refuses
  where
    by : (early : Bool) → Refuses early (MayReceive ends noerror) r → noerror ≡ false
    by true same = absurd (cc (ap (λ (r : Refused). r.errno) same, long))
    by false may = rw long at may.1
