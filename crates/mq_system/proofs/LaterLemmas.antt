-- What a seat knows more after some of its calls.
use Rattle.std.proofs.Common.{◌≡◌, ◌≢◌, ◌⊎◌, inl, inr, ℕ, ◌+◌, ◌<◌, ◌==◌, true, false, List, [], length, slice_index, slice_index_or, slice_set, refl, ap, ◌∙◌, subst, get_or-set_same, get_or-set_other, length-set}
use Rattle.std.specs.List.{sum}
use Rattle.std.proofs.lemmas.Bool.Decides.{eqb_tells}
use mathlib.Core.List.{IsPrefix}
use Rattle.mq_queue.specs.declared.event.Event.{Event}
use Rattle.mq_board.proofs.Fronts.{prefix_self, prefix_trans}
use Rattle.mq_system.specs.Outcome.{IsLook, IsStep}
use Rattle.mq_system.specs.Seat.{IsCounted, IsLater, IsSame, SeatState, front_of}

pub same_self : (seat : SeatState) → IsSame seat seat
same_self seat = record { number = refl; by_slot = refl }

pub same_trans : (a b c : SeatState) → IsSame a b → IsSame b c → IsSame a c
same_trans a b c p q = record {
  number = q.number ∙ p.number;
  by_slot = q.by_slot ∙ p.by_slot;
}

pub later_self : (seat : SeatState) → IsLater seat seat
later_self seat = record { count = refl; later = λ slot. prefix_self (front_of seat slot) }

pub later_trans : (a b c : SeatState) → IsLater a b → IsLater b c → IsLater a c
later_trans a b c p q = record {
  count = q.count ∙ p.count;
  later = λ slot.
      prefix_trans (front_of a slot) (front_of b slot) (front_of c slot) (p.later slot) (q.later slot);
}

pub look_self : (seat : SeatState) → IsLook seat seat
look_self seat = record { same = same_self seat; later = later_self seat }

pub look_trans : (a b c : SeatState) → IsLook a b → IsLook b c → IsLook a c
look_trans a b c p q = record {
  same = same_trans a b c p.same q.same;
  later = later_trans a b c p.later q.later;
}

-- a change of a seat that only read before
pub step_after : (a b c : SeatState) (slot : ℕ) → IsLook a b → IsCounted b c slot → IsLater b c
    → IsStep a c slot
step_after a b c slot look counted later =
    let is = look.same.by_slot in record {
      counted = record {
        within = subst (λ (l : List ℕ). slot < length l) is counted.within;
        number = counted.number ∙ look.same.number;
        by_slot =
            subst (λ (l : List ℕ). c.by_slot ≡ slice_set l slot (slice_index l slot + 1)) is counted.by_slot;
        total = subst (λ (l : List ℕ). sum c.by_slot ≡ sum l + 1) is counted.total;
      };
      later = later_trans a b c look.later later;
    }

-- one front grew, if it is there
pub later_set : (old new : SeatState) (slot : ℕ) (events : List Event) → slot < length old.fronts
    → new.fronts ≡ slice_set old.fronts slot events → IsPrefix (front_of old slot) events
    → IsLater old new
later_set old new slot events low is grew = record {
  count = ap length is ∙ length-set old.fronts slot events;
  later = λ k. by k (eqb_tells k slot);
}
  where
    by : (k : ℕ) → (((k == slot) ≡ true) × (k ≡ slot)) ⊎ (((k == slot) ≡ false) × (k ≢ slot))
        → IsPrefix (front_of old k) (front_of new k)
    by k (inl p) = rw (p.1, is, get_or-set_same old.fronts slot events [] low) grew
    by k (inr p) =
        rw (is, get_or-set_other old.fronts slot k events [] p.1) (prefix_self (front_of old k))

-- the front that grew
pub front_set : (old new : SeatState) (slot : ℕ) (events : List Event) → slot < length old.fronts
    → new.fronts ≡ slice_set old.fronts slot events → front_of new slot ≡ events
front_set old new slot events low is =
    ap (λ (fronts : List (List Event)). slice_index_or fronts slot []) is
    ∙ get_or-set_same old.fronts slot events [] low
