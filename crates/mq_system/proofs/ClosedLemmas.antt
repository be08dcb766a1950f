-- What holds of the slots that a system leaves.
use Rattle.std.proofs.Common.{◌≡◌, ◌≢◌, ◌⊎◌, inl, inr, ℕ, suc, ◌-◌, ◌<◌, ◌==◌, true, false, List, [], ◌∷◌, ◌++◌, length, length-append, reverse, slice_index_or, sum_by, refl, ap, sym, ◌∙◌, arith, All}
use mathlib.Core.List.{IsPrefix}
use Rattle.std.proofs.Math.Seq.{get_or-append_seam}
use Rattle.std.proofs.lemmas.Bool.Decides.{eqb_tells}
use Rattle.std.proofs.lemmas.List.{get_or-reverse, get_or_append_left, length-drop, length-reverse}
use Rattle.std.proofs.lemmas.List.Sums.{sum_by-cons}
use Rattle.mq_queue.specs.declared.event.Event.{Event}
use Rattle.mq_table.specs.Cut.{IsCutOf}
use Rattle.mq_calls.specs.Closed.{IsEndOf, cut_in, entries_at_end}
use Rattle.mq_calls.specs.declared.close.ClosedSlot.{ClosedSlot}
use Rattle.mq_system.specs.Seat.{SeatState, front_of}
use Rattle.mq_system.specs.Closed.{AreEnds, entries_in}
use Rattle.mq_system.proofs.StartLemmas.{Each, each_push}

-- what was drained of a list and what its slot leaves have its whole length
pub whole_length : (list : List Event) (closed : ClosedSlot) → IsCutOf list (cut_in closed)
    → entries_at_end closed ≡ length list
whole_length list closed h =
    omega (arith, h.within, ap length h.entries, length-append closed.past.items closed.last.items, length-drop closed.first list)

-- what each seat knew of the lists of the slots that are closed, the last first
abbrev pub IsSeen : ℕ → List SeatState → ℕ → List Event → Type 0
IsSeen slots seats k list = All (λ s. IsPrefix (front_of s (slots - 1 - k)) list) seats

-- the slots that are closed, the last first, ended with these lists
pub record AreEnded (slots last_seq : ℕ) (seats : List SeatState) (closed : List ClosedSlot)
    : Type 0 where
  pub lists : List (List Event)
  pub ends : AreEnds last_seq lists closed
  pub seen : Each (IsSeen slots seats) lists

pub none_ended : (slots last_seq : ℕ) (seats : List SeatState) (closed : List ClosedSlot)
    → length closed ≡ 0 → AreEnded slots last_seq seats closed
none_ended slots last_seq seats closed none = record {
  lists = [];
  ends = record { count = sym none; each = λ k d e low. absurd (omega (arith, low, none)) };
  seen = λ k d low. absurd (omega (arith, low));
}

module _ (slots last_seq : ℕ) (seats : List SeatState) (closed : List ClosedSlot)
    (h : AreEnded slots last_seq seats closed) where
  pub one_ended : (list : List Event) (c : ClosedSlot) → IsEndOf last_seq list c
      → IsSeen slots seats (length closed) list → AreEnded slots last_seq seats (closed ++ c ∷ [])
  one_ended list c is seen = record {
    lists = h.lists ++ list ∷ [];
    ends = record {
      count = omega (arith, h.ends.count, length-append h.lists (list ∷ []), length-append closed (c ∷ []));
      each = λ k d e low. by k d e low (eqb_tells k (length closed));
    };
    seen = each_push (IsSeen slots seats) h.lists list h.seen (rw h.ends.count seen);
  }
    where
      by : (k : ℕ) (d : List Event) (e : ClosedSlot) → k < length (closed ++ c ∷ [])
          → (((k == length closed) ≡ true) × (k ≡ length closed)) ⊎ (((k == length closed) ≡ false) × (k ≢ length closed))
          → IsEndOf last_seq (slice_index_or (h.lists ++ list ∷ []) k d) (slice_index_or (closed ++ c ∷ []) k e)
      by k d e low (inl p) =
          let there : k ≡ length h.lists = omega (arith, p.1, h.ends.count) in
          let one : slice_index_or (h.lists ++ list ∷ []) k d ≡ list =
          ap (λ j. slice_index_or (h.lists ++ list ∷ []) j d) there ∙ get_or-append_seam h.lists list [] d in
          let other : slice_index_or (closed ++ c ∷ []) k e ≡ c =
          ap (λ j. slice_index_or (closed ++ c ∷ []) j e) p.1 ∙ get_or-append_seam closed c [] e in
          rw (one, other) is
      by k d e low (inr p) =
          let before : k < length closed = omega (arith, low, length-append closed (c ∷ []), p.1) in
          rw (
            get_or_append_left h.lists (list ∷ []) d k (omega (arith, before, h.ends.count)),
            get_or_append_left closed (c ∷ []) e k before,
          )
          (h.ends.each k d e before)

  -- in their order
  pub in_order : AreEnds last_seq (reverse h.lists) (reverse closed)
  in_order = record {
    count = length-reverse h.lists ∙ h.ends.count ∙ sym (length-reverse closed);
    each = λ k d e low.
        let inside : k < length closed = omega (arith, low, length-reverse closed) in
        let same : length h.lists - 1 - k ≡ length closed - 1 - k = omega (arith, h.ends.count) in
        let one : slice_index_or (reverse h.lists) k d ≡ slice_index_or h.lists (length closed - 1 - k) d =
        get_or-reverse h.lists k d (omega (arith, inside, h.ends.count)) ∙ ap (λ j. slice_index_or h.lists j d) same in
        rw (one, get_or-reverse closed k e inside)
        (h.ends.each (length closed - 1 - k) d e (omega (arith, inside)));
  }

-- the lists have as many entries as the slots state
pub sums_agree : (last_seq : ℕ) (lists : List (List Event)) (slots : List ClosedSlot)
    → AreEnds last_seq lists slots → sum_by length lists ≡ entries_in slots
sums_agree last_seq [] [] h = refl
sums_agree last_seq [] (s ∷ ss) h = absurd (omega (arith, h.count))
sums_agree last_seq (l ∷ ls) [] h = absurd (omega (arith, h.count))
sums_agree last_seq (l ∷ ls) (s ∷ ss) h =
    let first = h.each 0 l s (omega arith) in
    let rest : AreEnds last_seq ls ss = record {
      count = omega (arith, h.count);
      each = λ k d e low. h.each (suc k) d e (omega (arith, low));
    } in
    omega (arith, sum_by-cons length l ls, sum_by-cons entries_at_end s ss, whole_length l s first.kept, sums_agree last_seq ls ss rest)
