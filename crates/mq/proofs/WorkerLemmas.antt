-- Workers that take their seats, and leave them with their answers.
use Rattle.std.proofs.Common.{◌≡◌, ℕ, zero, suc, ◌*◌, List, [], ◌∷◌, ◌++◌, length, take, replicate, Some, slice_get, slice_index, sum, refl, ap, ◌∙◌, arith, append_assoc}
use Rattle.std.proofs.Math.Seq.{take-length}
use Rattle.std.proofs.lemmas.List.Folds.{sum_by-replicate}
use Rattle.mq_calls.specs.declared.close.ClosedSlot.{ClosedSlot}
use Rattle.mq_system.specs.Seat.{SeatState, counted_by, fresh_seat}
use Rattle.mq_system.specs.Closed.{IsEnd, entries_in}
use Rattle.mq_system.specs.Started.{AreFresh}
use Rattle.mq.specs.Ended.{AreChanges}
use Rattle.mq.specs.Workers.{AreAfterWork, AreOf, IsOf}

module _ {W : Type 0} where
  at_end : (left rest : List W) (worker : W) → slice_get ((left ++ worker ∷ []) ++ rest) (length left) ≡ Some worker
  at_end [] rest worker = refl
  at_end (w ∷ left) rest worker = at_end left rest worker

  -- the last of those that are left is the worker of its place
  pub last_is : (workers items left rest : List W) (worker : W) → items ≡ left ++ worker ∷ [] → items ++ rest ≡ workers
      → slice_get workers (length left) ≡ Some worker
  last_is workers items left rest worker popped is = rw (← is, popped) (at_end left rest worker)

  -- and the others stand before it
  pub others_are : (workers items left rest : List W) (worker : W) → items ≡ left ++ worker ∷ [] → items ++ rest ≡ workers
      → left ++ worker ∷ rest ≡ workers
  others_are workers items left rest worker popped is = rw (← is, popped, append_assoc) refl

module _ {W A : Type 0} (after : W → SeatState → A → Type 0) where
  -- one more worker has left its seat
  pub one_more : (workers : List W) (seats : List SeatState) (answers : List A) (seat : SeatState) (answer : A)
      → AreAfterWork after (take (length answers) workers) seats answers → IsOf after workers (length answers) seat answer
      → AreAfterWork after (take (length (answers ++ answer ∷ [])) workers) (seats ++ seat ∷ []) (answers ++ answer ∷ [])
  one_more [] seats [] seat answer all of = absurd (cc of.1)
  one_more [] seats (a ∷ answers) seat answer all of = absurd (cc of.1)
  one_more (w ∷ workers) [] [] seat answer all of =
      let same : of.0 ≡ w = cc of.1 in
      (rw same at of.2, tt)
  one_more (w ∷ workers) (s ∷ seats) [] seat answer all of = absurd all
  one_more (w ∷ workers) [] (a ∷ answers) seat answer all of = absurd all
  one_more (w ∷ workers) (s ∷ seats) (a ∷ answers) seat answer all of = (all.0, one_more workers seats answers seat answer all.1 of)

  -- the same of vectors to which these were pushed
  pub one_pushed : (workers : List W) (seats more : List SeatState) (answers others : List A) (seat : SeatState) (answer : A) (n : ℕ)
      → more ≡ seats ++ seat ∷ [] → others ≡ answers ++ answer ∷ [] → n ≡ length answers
      → AreAfterWork after (take (length answers) workers) seats answers → IsOf after workers n seat answer
      → AreAfterWork after (take (length others) workers) more others
  one_pushed workers seats more answers others seat answer n seats_are answers_are place all of =
      rw (seats_are, answers_are) (one_more workers seats answers seat answer all (rw place at of))

  -- all have left
  pub all_left : (workers : List W) (seats : List SeatState) (answers : List A) → length answers ≡ length workers
      → AreAfterWork after (take (length answers) workers) seats answers → AreAfterWork after workers seats answers
  all_left workers seats answers as_many all = rw (as_many, take-length workers) at all

zeros : (n i : ℕ) → slice_index (replicate n 0) i ≡ 0
zeros zero i = refl
zeros (suc n) zero = refl
zeros (suc n) (suc i) = zeros n i

-- without workers nothing is changed
pub none_changed : (last_seq slots : ℕ) (seats : List SeatState) (ended : List ClosedSlot) → length seats ≡ 1 → AreFresh slots seats
    → IsEnd last_seq seats ended → entries_in ended ≡ counted_by seats → AreChanges last_seq [] ended
none_changed last_seq slots [] ended one fresh end total = absurd (omega arith)
none_changed last_seq slots (s ∷ t ∷ seats) ended one fresh end total = absurd (omega arith)
none_changed last_seq slots (s ∷ []) ended one fresh end total =
    let is : s ≡ fresh_seat slots 1 = fresh 0 s (omega arith) in
    let at : (slot : ℕ) → slice_index s.by_slot slot ≡ 0 = λ slot. ap (λ (t : SeatState). slice_index t.by_slot slot) is ∙ zeros slots slot in
    let none : sum s.by_slot ≡ slots * 0 = ap (λ (t : SeatState). sum t.by_slot) is ∙ sum_by-replicate (λ x. x) slots 0 in
    record {
      numbers = λ i j d less within. absurd (omega arith);
      end = record {
        lists = end.lists;
        ends = end.ends;
        seen = λ seat slot d e low within. absurd (omega arith);
        counted = λ slot d within. omega (arith, end.counted slot d within, at slot);
      };
      total = omega (arith, total, none);
    }

-- nor are there answers
pub none_left : {W A : Type 0} (after : W → SeatState → A → Type 0) (last_seq slots : ℕ) (seats : List SeatState) (workers : List W)
    (answers : List A) (ended : List ClosedSlot) → length seats ≡ 1 → AreFresh slots seats → IsEnd last_seq seats ended
    → entries_in ended ≡ counted_by seats → length workers ≡ 0 → answers ≡ [] → AreOf after last_seq workers answers ended
none_left after last_seq slots seats [] answers ended one fresh end total nobody nothing =
    rw nothing (record { seats = []; each = tt; changes = none_changed last_seq slots seats ended one fresh end total })
none_left after last_seq slots seats (w ∷ workers) answers ended one fresh end total nobody nothing = absurd (omega arith)
