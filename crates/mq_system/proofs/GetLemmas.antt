-- What was so at some moment of a call, once its seat knows more.
use Rattle.std.proofs.Common.{◌≡◌, ◌≢◌, ◌⊎◌, inl, inr, ℕ, ℤ, pos, ◌+◌, ◌<◌, ◌==◌, true, false, List, length, Option, None, Some, refl, ap, subst, arith}
use Rattle.std.specs.Prelude.{MatchOption, MatchResult, OnErr, Result, Ok, Err}
use Rattle.std.proofs.lemmas.Bool.Decides.{eqb_tells}
use Rattle.std.proofs.lemmas.List.{length-append}
use Rattle.mq_queue.specs.declared.event.Event.{Event}
use Rattle.mq_queue.specs.declared.event.Event.TheVariants as event
use Rattle.mq_table.specs.Ids.{slot_of}
use Rattle.mq_board.proofs.Fronts.{prefix_self, prefix_trans}
use Rattle.mq_calls.specs.declared.errno.Errno.{Errno}
use Rattle.mq_calls.specs.declared.errno.Errno.TheVariants.{ENOMEM, ENOSPC}
use Rattle.mq_calls.specs.declared.results.GetFlags.{GetFlags}
use Rattle.mq_calls.specs.declared.results.Got.{Got}
use Rattle.mq_system.specs.Making.{IsMade, IsNotMade, IsThere, Lacks, make_verdict}
use Rattle.mq_system.specs.Outcome.{IsLook}
use Rattle.mq_system.specs.Seat.{IsLater, SeatState, front_of}
use Rattle.mq_system.specs.Seen.{IsDone, Verdict}
use Rattle.mq_system.proofs.LaterLemmas.{later_self, look_trans, step_after}
use Rattle.mq_system.specs.Get.{HadFree, IsFound, IsFree, IsGot, IsNew, IsNotGot, IsNotNew, IsNotFree, MayRefuse, WasAt, WasBelow, WasLacked, WhyNotGot, may_make}

-- it is so now
pub was_now : (fact : List Event → Type 0) (old new : SeatState) (slot : ℕ) → IsLater old new
    → fact (front_of new slot) → WasAt fact old new slot
was_now fact old new slot later so = record {
  then = front_of new slot;
  since = later.later slot;
  until = prefix_self (front_of new slot);
  so = so;
}

-- it was so, and the seat knew less before or knows more now
pub was_around : (fact : List Event → Type 0) (a b c d : SeatState) (slot : ℕ) → IsLater a b
    → IsLater c d → WasAt fact b c slot → WasAt fact a d slot
was_around fact a b c d slot before after was = record {
  then = was.then;
  since =
      prefix_trans (front_of a slot) (front_of b slot) was.then (before.later slot) was.since;
  until =
      prefix_trans was.then (front_of c slot) (front_of d slot) was.until (after.later slot);
  so = was.so;
}

pub below_around : (fact : List Event → Type 0) (a b c d : SeatState) (count : ℕ) → IsLater a b
    → IsLater c d → WasBelow fact b c count → WasBelow fact a d count
below_around fact a b c d count before after was slot low =
    was_around fact a b c d slot before after (was slot low)

-- one slot more
pub below_more : (fact : List Event → Type 0) (old had now : SeatState) (slot : ℕ)
    → IsLater old had → IsLater had now → fact (front_of now slot) → WasBelow fact old had slot
    → WasBelow fact old now (slot + 1)
below_more fact old had now slot before later so was k low = by (eqb_tells k slot)
  where
    below : k ≢ slot → k < slot
    below other = omega (arith, low, other)

    by : (((k == slot) ≡ true) × (k ≡ slot)) ⊎ (((k == slot) ≡ false) × (k ≢ slot))
        → WasAt fact old now k
    by (inl p) =
        rw p.1
        (was_around fact old had now now slot before (later_self now) (was_now fact had now slot later so))
    by (inr p) = was_around fact old old had now k (later_self old) later (was k (below p.1))

-- a queue that is there is found
pub found : (slot : ℕ) (key : ℤ) (old had now : SeatState) (id : ℕ) → IsLater old had
    → IsLater had now → IsThere slot key (front_of now slot) id → IsFound key old now id
found slot key old had now id before later there =
    let its : IsThere (slot_of id) key (front_of now (slot_of id)) id =
    rw there.slot_is there in record {
      was =
          was_around _ old had now now (slot_of id) before (later_self now)
          (was_now _ had now (slot_of id) later its.keyed);
      made = its.made;
    }

-- a change of a seat that knew less before
done_before : (a b c : SeatState) (slot : ℕ) (verdict : Verdict) (entry : ℕ) (e : Event)
    → IsLater a b → IsDone b c slot verdict entry e → IsDone a c slot verdict entry e
done_before a b c slot verdict entry e before done =
    let p = before.later slot in record {
      late =
          omega (arith, done.late, ap length p.1, length-append (front_of a slot) p.0);
      there = done.there;
      allowed = done.allowed;
    }

pub made_before : (a b c : SeatState) (slot last_seq : ℕ) (key : ℤ) (moment : ℕ) (got : Got)
    → IsLook a b → IsMade b c slot last_seq key moment got
    → IsMade a c slot last_seq key moment got
made_before a b c slot last_seq key moment got look made = record {
  entry = made.entry;
  made = made.made;
  done =
      subst (λ seat. IsDone a c slot (make_verdict last_seq) made.entry (event.Made seat moment key)) look.same.number
      (done_before a b c slot (make_verdict last_seq) made.entry (event.Made b.number moment key) look.later made.done);
  slot_is = made.slot_is;
  seq_is = made.seq_is;
  step = step_after a b c slot look made.step.counted made.step.later;
}

-- memory ran out in a slot that was free
pub wanted : (last_seq : ℕ) (events : List Event) (errno : Errno)
    → IsNotMade last_seq events errno → errno ≢ ENOSPC → IsFree last_seq events
wanted last_seq events ENOSPC is other = absurd (other refl)
wanted last_seq events ENOMEM is other = is
wanted last_seq events _ is other = absurd is

-- a slot is free, and none below it was
pub free_now : (slots last_seq : ℕ) (old had now : SeatState) (slot : ℕ) → slot < slots
    → IsLater old had → IsLater had now → IsFree last_seq (front_of now slot)
    → WasBelow (IsNotFree last_seq) old had slot → HadFree slots last_seq old now
free_now slots last_seq old had now slot within before later free lower = record {
  slot = slot;
  within = within;
  free =
      was_around (IsFree last_seq) old had now now slot before (later_self now)
      (was_now (IsFree last_seq) had now slot later free);
  lower =
      below_around (IsNotFree last_seq) old old had now slot (later_self old) later lower;
}

-- a queue that was found by a seat that knew less before
pub found_before : (key : ℤ) (a b c : SeatState) (id : ℕ) → IsLater a b → IsFound key b c id
    → IsFound key a c id
found_before key a b c id before found = record {
  was = was_around _ a b c c (slot_of id) before (later_self c) found.was;
  made = found.made;
}

match_some : (o : Option ℕ) (n : ℕ) (P Q : Type 0) → o ≡ Some n → Q → MatchOption o P (λ _. Q)
match_some None n P Q is q = cc
match_some (Some m) n P Q is q = q

module _ (slots last_seq : ℕ) (key : ℤ) (flags : GetFlags) (moment : ℕ) (a b c : SeatState)
    (look : IsLook a b) (may : may_make key flags ≡ true)
    (lacked : key ≢ pos 0 → WasBelow (Lacks key) a b slots) where
  still_lacked : IsLater b c → WasLacked slots key a c
  still_lacked after some =
      below_around (Lacks key) a a b c slots (later_self a) after (lacked some)

  -- a queue was made once none was found
  got_new : (got : Got) → IsNew slots last_seq key moment b c got
      → IsGot slots last_seq key flags moment a c got
  got_new got new =
      let made = made_before a b c (slot_of got.id) last_seq key moment got look new.made in
      let first : IsNew slots last_seq key moment a c got = record {
        within = new.within;
        made = made;
        lower =
            below_around (IsNotFree last_seq) a b c c (slot_of got.id) look.later (later_self c) new.lower;
      } in record {
        allowed = rw made.made may;
        within = new.within;
        counts = rw made.made made.step.counted;
        later = made.step.later;
        how =
            match_some got.made made.entry ((slot_of got.id < slots) × IsFound key a c got.id)
            (IsNew slots last_seq key moment a c got × WasLacked slots key a c) made.made
            (first, still_lacked new.made.step.later);
      }

  -- none was made, and none was found
  may_refuse : (errno : Errno) → IsNotNew slots last_seq b c errno → MayRefuse key flags errno
  may_refuse ENOSPC full = may
  may_refuse ENOMEM had = may
  may_refuse _ none = absurd none

  why : (errno : Errno) → IsLater b c → IsNotNew slots last_seq b c errno
      → WhyNotGot slots last_seq key a c errno
  why ENOSPC after full = (
    below_around (IsNotFree last_seq) a b c c slots look.later (later_self c) full,
    still_lacked after,
  )
  why ENOMEM after had = (
    record {
      slot = had.slot;
      within = had.within;
      free = was_around (IsFree last_seq) a b c c had.slot look.later (later_self c) had.free;
      lower =
          below_around (IsNotFree last_seq) a b c c had.slot look.later (later_self c) had.lower;
    },
    still_lacked after,
  )
  why _ after none = absurd none

  -- what the call answers
  pub answers : (r : Result Got Errno)
      → MatchResult r (IsNew slots last_seq key moment b c) (IsNotNew slots last_seq b c)
      → OnErr r (IsLook b c)
      → MatchResult r (IsGot slots last_seq key flags moment a c)
      (IsNotGot slots last_seq key flags a c)
  answers (Ok got) new after = got_new got new
  answers (Err errno) not_new after = record {
    allowed = may_refuse errno not_new;
    look = look_trans a b c look after;
    why = why errno after.later not_new;
  }
