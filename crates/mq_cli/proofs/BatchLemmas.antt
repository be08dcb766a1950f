-- Messages that were received by one call of the system, as by so many calls of a port.
use Rattle.std.proofs.Common.{◌≡◌, ℕ, ◌+◌, ◌<◌, ◌≤◌, ◌||◌, nat_lt, ℤ, Bool, true, false, List, [], ◌∷◌, length, map, slice_get, Option, None, Some, Result, Ok, Err, MatchOption, refl, sym, ap, ◌∙◌, subst, length-append, arith}
use Rattle.std.proofs.lemmas.List.{length-map}
use Rattle.std.specs.List.{FoldsTo, sum}
use mathlib.Core.List.{IsPrefix}
use Rattle.mq_arena.specs.Text.{PlainText}
use Rattle.mq_queue.specs.declared.event.Event.TheVariants.{Received}
use Rattle.mq_queue.specs.declared.limits.TheConstants.{MSGMAX}
use Rattle.mq_message.specs.Selection.{selection_of}
use Rattle.mq_table.specs.Ids.{seq_of, slot_of}
use Rattle.mq_calls.specs.declared.errno.Errno.{Errno}
use Rattle.mq_calls.specs.declared.errno.Errno.TheVariants.{E2BIG, EAGAIN, EEXIST, EIDRM, EINVAL, ENOENT, ENOMEM, ENOMSG, ENOSPC, EPERM}
use Rattle.mq_calls.specs.declared.results.Delivered.{Delivered}
use Rattle.mq_calls.specs.declared.results.Refused.{Refused}
use Rattle.mq_system.proofs.LaterLemmas.{look_self, step_after}
use Rattle.mq_system.specs.Outcome.{IsLook, IsReceived, IsTurnedAway}
use Rattle.mq_system.specs.Refusals.{MayReceive, Refuses, out_of_slots}
use Rattle.mq_system.specs.Seat.{SeatState, front_of}
use Rattle.mq_system.specs.Seen.{IsRefused, Verdict, receive_verdict}
use Rattle.mq_system.specs.SeenMany.{AreReceived, IsNextReceived}
use Rattle.mq_cli.specs.declared.threads.taken.Taken.{Taken}
use Rattle.mq_cli.specs.Batches.{TakesMany, TakesNext}
use Rattle.mq_cli.specs.Letters.{AreLetters}
use Rattle.mq_cli.specs.Ports.{Receives, taken_of}
use Rattle.mq_cli.specs.Works.{Takes}
use Rattle.mq_cli.proofs.PortLemmas.{or_none, refused_call}

no_longer : {A : Type 0} (xs ys : List A) → IsPrefix xs ys → length xs ≤ length ys
no_longer xs ys p =
    let whole = ap length p.1 in
    omega (arith, whole, length-append xs p.0)

-- a message that was received after a read
received_after : (slots id : ℕ) (msgtyp : ℤ) (moment : ℕ) (a b c : SeatState) (d : Delivered PlainText) → IsLook a b
    → IsReceived AreLetters slots id MSGMAX (selection_of msgtyp false) false moment b c d
    → IsReceived AreLetters slots id MSGMAX (selection_of msgtyp false) false moment a c d
received_after slots id msgtyp moment a b c d look told =
    let slot = slot_of id in
    let its = told.receipt in
    let grown = no_longer (front_of a slot) (front_of b slot) (look.later.later slot) in
    let by : ℕ → Type 0 =
    λ n. slice_get (front_of c slot) d.entry ≡ Some (Received n false moment its.message.place (selection_of msgtyp false) MSGMAX) in
    record {
      early = told.early;
      step = step_after a b c slot look told.step.counted told.step.later;
      receipt = record {
        message = its.message;
        done = record {
          late = omega (arith, grown, its.done.late);
          there = subst by look.same.number its.done.there;
          allowed = its.done.allowed;
        };
        named = its.named;
        mtype = its.mtype;
        sender = its.sender;
        tag = its.tag;
        long = its.long;
      };
      pledge = told.pledge;
      whole = told.whole;
    }

decided_after : (a c : SeatState) (slot : ℕ) (verdict : Verdict) (entry : Option ℕ) (errno : Errno) → IsLook a c
    → MatchOption entry (Unit {0}) (λ e. IsRefused c c slot verdict e errno)
    → MatchOption entry (Unit {0}) (λ e. IsRefused a c slot verdict e errno)
decided_after a c slot verdict None errno look is = tt
decided_after a c slot verdict (Some e) errno look is =
    let grown = no_longer (front_of a slot) (front_of c slot) (look.later.later slot) in
    record { late = omega (arith, grown, is.late); known = is.known; why = is.why }

-- without a message before, a receiver's refusals are those of one that waits as long
still_may : (ends some : Bool) (errno : Errno) → (errno ≡ ENOMSG → some ≡ false) → MayReceive (ends || some) false errno
    → MayReceive ends false errno
still_may ends some ENOMSG none may =
    let left : (ends || false) ≡ true = subst (λ (b : Bool). (ends || b) ≡ true) (none refl) may in
    sym (or_none ends) ∙ left
still_may ends some EINVAL none may = may
still_may ends some EIDRM none may = may
still_may ends some EAGAIN none may = may
still_may ends some ENOMEM none may = may
still_may ends some E2BIG none may = may
still_may ends some EPERM none may = may
still_may ends some EEXIST none may = may
still_may ends some ENOENT none may = may
still_may ends some ENOSPC none may = may

still_refuses : (early ends some : Bool) (r : Refused) → (r.errno ≡ ENOMSG → some ≡ false)
    → Refuses early (MayReceive (ends || some) false) r → Refuses early (MayReceive ends false) r
still_refuses true ends some r none is = is
still_refuses false ends some r none is = (is.0, still_may ends some r.errno none is.1)

-- a receipt that was refused after a read, and after others of its batch
turned_after : (slots id : ℕ) (msgtyp : ℤ) (ends some : Bool) (a c : SeatState) (r : Refused) → IsLook a c → (r.errno ≡ ENOMSG → some ≡ false)
    → IsTurnedAway (out_of_slots slots id) (MayReceive (ends || some) false) (slot_of id)
    (receive_verdict (seq_of id) MSGMAX (selection_of msgtyp false) false) c c r
    → Receives slots a c id msgtyp ends 0 (Err r.errno)
turned_after slots id msgtyp ends some a c r look none told =
    let verdict = receive_verdict (seq_of id) MSGMAX (selection_of msgtyp false) false in
    refused_call (out_of_slots slots id) (MayReceive ends false) (slot_of id) verdict a c r
    (record {
      look = look;
      refuses = still_refuses (out_of_slots slots id) ends some r none told.refuses;
      decided = decided_after a c (slot_of id) verdict r.entry r.errno look told.decided;
    })

module _ (slots id : ℕ) (msgtyp : ℤ) (moment : ℕ) where
  counted : (ds : List (Delivered PlainText)) (now new : SeatState)
      → FoldsTo (IsNextReceived AreLetters slots id MSGMAX (selection_of msgtyp false) false moment) now ds new
      → sum new.by_slot ≡ sum now.by_slot + length ds
  counted [] now new is =
      let same = ap (λ (s : SeatState). sum s.by_slot) is in
      omega (arith, same)
  counted (d ∷ ds) now new turns =
      let rest = counted ds turns.0 new turns.2 in
      omega (arith, rest, turns.1.received.step.counted.total)

  -- each message of a batch counts for the seat
  pub batch_counted : (nowait : Bool) (n : ℕ) (old new : SeatState) (ds : List (Delivered PlainText)) (taken : List Taken) (ended : Result (Unit {0}) Refused)
      → taken ≡ map taken_of ds → AreReceived AreLetters slots id MSGMAX (selection_of msgtyp false) false nowait moment n old new ds ended
      → sum new.by_slot ≡ sum old.by_slot + length taken
  batch_counted nowait n old new ds taken ended is told =
      let same = ap (λ (l : List ℕ). sum l) told.look.same.by_slot in
      let turns = counted ds told.now new told.turns in
      let count : length taken ≡ length ds = ap length is ∙ length-map ds taken_of in
      omega (arith, same, turns, count)

-- what was asked of a batch holds of more
pub of_more : {Q : Type 0} (takes : Takes Q) (id : ℕ) (msgtyp : ℤ) (ends : Bool) (moment most more : ℕ) (old new : Q) (taken : List Taken) (answer : Result (Unit {0}) Errno)
    → most ≤ more → TakesMany takes id msgtyp ends moment most old taken answer new → TakesMany takes id msgtyp ends moment more old taken answer new
of_more takes id msgtyp ends moment most more old new taken (Ok _) few told = record {
  mid = told.mid;
  turns = told.turns;
  count = (told.count.0, omega (arith, told.count.1, few));
  ended = told.ended;
}
of_more takes id msgtyp ends moment most more old new taken (Err errno) few told = record {
  mid = told.mid;
  turns = told.turns;
  count = omega (arith, told.count, few);
  ended = told.ended;
}

-- ports by the seats at which they make their calls
module _ {Q : Type 0} (seat_of : Q → SeatState) (moved : Q → SeatState → Q) (moved_is : (q : Q) (s : SeatState) → seat_of (moved q s) ≡ s) (slots id : ℕ) (msgtyp : ℤ) (ends : Bool) (moment : ℕ)
  where
    abbrev at_seats : Takes Q
    at_seats old id msgtyp ends moment answer new =
        Receives slots (seat_of old) (seat_of new) id msgtyp ends moment answer

    in_turn : (ds : List (Delivered PlainText)) (p q : Q) (now : SeatState) → IsLook (seat_of p) now → 0 < length ds
        → FoldsTo (IsNextReceived AreLetters slots id MSGMAX (selection_of msgtyp false) false moment) now ds (seat_of q)
        → FoldsTo (TakesNext at_seats id msgtyp ends moment) p (map taken_of ds) q
    in_turn [] p q now look some turns = absurd (omega (arith, some))
    in_turn (d ∷ []) p q now look some turns =
        let told = received_after slots id msgtyp moment (seat_of p) now turns.0 d look turns.1.received in (
          q,
          (d, refl, subst (λ (s : SeatState). IsReceived AreLetters slots id MSGMAX (selection_of msgtyp false) false moment (seat_of p) s d) turns.2 told),
          refl,
        )
    in_turn (d ∷ e ∷ ds) p q now look some turns =
        let mid = moved p turns.0 in
        let is = sym (moved_is p turns.0) in
        let told = received_after slots id msgtyp moment (seat_of p) now turns.0 d look turns.1.received in (
          mid,
          (d, refl, subst (λ (s : SeatState). IsReceived AreLetters slots id MSGMAX (selection_of msgtyp false) false moment (seat_of p) s d) is told),
          in_turn (e ∷ ds) mid q turns.0 (subst (λ (s : SeatState). IsLook s turns.0) is (look_self turns.0)) (omega arith) turns.2,
        )

    -- a batch that received some
    pub took_some : (n most : ℕ) (old new : Q) (ds : List (Delivered PlainText)) (taken : List Taken) (ended : Result (Unit {0}) Refused) → taken ≡ map taken_of ds
        → 0 < length ds → length ds ≤ most
        → AreReceived AreLetters slots id MSGMAX (selection_of msgtyp false) false ends moment n (seat_of old) (seat_of new) ds ended
        → TakesMany at_seats id msgtyp ends moment most old taken (Ok tt) new
    took_some n most old new ds taken ended is some few told =
        let count = length-map ds taken_of in
        rw is
        (record {
          mid = new;
          turns = in_turn ds old new told.now told.look some told.turns;
          count = (omega (arith, count, some), omega (arith, count, few));
          ended = refl;
        })

    -- a batch that was refused
    pub took_until : (n most : ℕ) (old new : Q) (ds : List (Delivered PlainText)) (taken : List Taken) (r : Refused) → taken ≡ map taken_of ds → n ≤ most
        → (r.errno ≡ ENOMSG → length ds ≡ 0)
        → AreReceived AreLetters slots id MSGMAX (selection_of msgtyp false) false ends moment n (seat_of old) (seat_of new) ds (Err r)
        → TakesMany at_seats id msgtyp ends moment most old taken (Err r.errno) new
    took_until n most old new [] taken r is few none told =
        let look = subst (λ (s : SeatState). IsLook (seat_of old) s) told.turns told.look in
        rw is
        (record {
          mid = old;
          turns = refl;
          count = omega (arith, told.all, few);
          ended = turned_after slots id msgtyp ends (nat_lt 0 (length {A = Delivered PlainText} [])) (seat_of old) (seat_of new) r look (λ same. refl) told.refused;
        })
    took_until n most old new (d ∷ ds) taken r is few none told =
        let count = length-map (d ∷ ds) taken_of in
        rw is
        (record {
          mid = new;
          turns = in_turn (d ∷ ds) old new told.now told.look (omega arith) told.turns;
          count = omega (arith, told.all, few, count);
          ended =
              turned_after slots id msgtyp ends (nat_lt 0 (length (d ∷ ds))) (seat_of new) (seat_of new) r (look_self (seat_of new)) (λ same. absurd (omega (arith, none same))) told.refused;
        })

    -- a batch of one
    pub took_one : (most : ℕ) (old new : Q) (one : Taken) (taken : List Taken) → taken ≡ one ∷ [] → 0 < most
        → Receives slots (seat_of old) (seat_of new) id msgtyp ends moment (Ok one)
        → TakesMany at_seats id msgtyp ends moment most old taken (Ok tt) new
    took_one most old new one taken is some told =
        rw is
        (record {
          mid = new;
          turns = (new, told, refl);
          count = (omega arith, omega (arith, some));
          ended = refl;
        })

    pub took_none : (most : ℕ) (old new : Q) (taken : List Taken) (errno : Errno) → taken ≡ [] → 0 < most
        → Receives slots (seat_of old) (seat_of new) id msgtyp ends moment (Err errno)
        → TakesMany at_seats id msgtyp ends moment most old taken (Err errno) new
    took_none most old new taken errno is some told =
        rw is (record { mid = old; turns = refl; count = omega (arith, some); ended = told })
