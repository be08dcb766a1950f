-- A seat that notes changes of a slot.
use Rattle.std.proofs.Common.{◌≡◌, ℕ, ◌+◌, ◌<◌, List, [], length, slice_index, slice_set, refl, ap, sym, ◌∙◌, arith, get_or-set_same, length-set}
use Rattle.std.proofs.lemmas.List.{set-get_or, set-set}
use Rattle.std.proofs.lemmas.List.Sums.{sum_by-set}
use Rattle.mq_queue.specs.declared.event.Event.{Event}
use Rattle.mq_system.specs.Held.{HasNoted}
use Rattle.mq_system.specs.Seat.{SeatState, front_of, noted_more}

pub same_seat : (a b : SeatState) → a.number ≡ b.number → a.by_slot ≡ b.by_slot
    → a.fronts ≡ b.fronts → a ≡ b
same_seat a b p q r = λ i. record { number = p i; by_slot = q i; fronts = r i }

module _ (seat : SeatState) (slot : ℕ) where
  abbrev count : ℕ
  count = slice_index seat.by_slot slot

  -- it has noted none
  pub noted_none : (events : List Event) → front_of seat slot ≡ events
      → noted_more seat slot 0 events ≡ seat
  noted_none events known =
      same_seat (noted_more seat slot 0 events) seat refl
      (ap (slice_set seat.by_slot slot) (omega arith) ∙ set-get_or seat.by_slot slot 0)
      (ap (slice_set seat.fronts slot) (sym known) ∙ set-get_or seat.fronts slot [])

  -- it notes one more
  pub noted_next : (k : ℕ) (events after : List Event) → slot < length seat.by_slot
      → HasNoted (noted_more seat slot k events) (noted_more seat slot (k + 1) after) slot after
  noted_next k events after low =
      let had = slice_set seat.by_slot slot (count + k) in
      let there : slice_index had slot ≡ count + k =
      get_or-set_same seat.by_slot slot (count + k) 0 low in
      let inside : slot < length had = rw (length-set seat.by_slot slot (count + k)) low in record {
        counted = record {
          within = inside;
          number = refl;
          by_slot =
              ap (slice_set seat.by_slot slot) (omega (arith, there))
              ∙ sym (set-set seat.by_slot slot (count + k) (slice_index had slot + 1));
          total =
              omega (arith, sum_by-set (λ (n : ℕ). n) seat.by_slot slot (count + k) 0 low, sum_by-set (λ (n : ℕ). n) seat.by_slot slot (count + (k + 1)) 0 low);
        };
        learned = sym (set-set seat.fronts slot events after);
      }

  -- it has noted one
  pub noted_one : (after : List Event) → slot < length seat.by_slot → HasNoted seat (noted_more seat slot 1 after) slot after
  noted_one after low = record {
    counted = record {
      within = low;
      number = refl;
      by_slot = refl;
      total = omega (arith, sum_by-set (λ (n : ℕ). n) seat.by_slot slot (count + 1) 0 low);
    };
    learned = refl;
  }
