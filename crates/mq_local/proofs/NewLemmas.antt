-- What holds of a system in which no queue is made.
use Rattle.std.proofs.Common.{◌≡◌, ℕ, false, [], refl, sym, ◌∙◌, true≢false, arith, All, Any}
use Rattle.std.specs.List.{range_with_len}
use Rattle.std.proofs.lemmas.List.Elements.{All-map}
use Rattle.mq_arena.specs.Text.{PlainText}
use Rattle.mq_table.specs.Kept.{KeptSlot, is_live_kept}
use Rattle.mq_table.specs.KeptPart.{IsLawfulSlot, WaitsNow}
use Rattle.mq_table.specs.SlotList.{IsSlotList}
use Rattle.mq_table.specs.SlotParts.{empty_kept}
use Rattle.mq_table.proofs.KeptTurns.{none_kept}
use Rattle.mq_local.specs.Holds.{HasQueue, AreKeysOf}
use Rattle.mq_calls.specs.Limits.{empty_slots}
use Rattle.mq_calls.specs.Texts.{bytes_of}

-- what holds of each empty slot, holds of all
all_new : (P : KeptSlot PlainText → Type 0) → ((k : ℕ) → P (empty_kept k)) → (count : ℕ)
    → All P (empty_slots count)
all_new P each count =
    All-map P (empty_kept {B = PlainText}) (range_with_len 0 count) (λ k d within. each _)

-- no event is a slot list
none_is_list : (last_seq : ℕ) → IsSlotList last_seq []
none_is_list last_seq = record {
  logs = [];
  whole = refl;
  few = omega arith;
  lawful = λ k d within. absurd (omega (arith, within));
  ended = λ k d within. absurd (omega (arith, within));
}

pub lawful_new : (last_seq count : ℕ) → All (IsLawfulSlot last_seq) (empty_slots count)
lawful_new last_seq count =
    all_new (IsLawfulSlot last_seq)
    (λ k. record {
      list = [];
      part = none_kept (empty_kept k) refl refl refl refl refl refl;
      lawful = none_is_list last_seq;
    })
    count

pub waits_new : (count : ℕ) → All (WaitsNow bytes_of) (empty_slots count)
waits_new count = all_new (WaitsNow bytes_of) (λ k. refl) count

pub keyed_new : (count : ℕ) → AreKeysOf (empty_slots count) []
keyed_new count key id = (
  λ there. absurd (omega (arith, there.1)),
  λ has. absurd (none has.1),
)
  where
    gone : All (λ (s : KeptSlot PlainText). is_live_kept s ≡ false) (empty_slots count)
    gone = all_new (λ s. is_live_kept s ≡ false) (λ k. refl) count

    none : Any (HasQueue key id) (empty_slots count) → ⊥
    none some =
        let empty = rw some.3 at (gone some.0 some.1 some.2) in
        true≢false (sym some.4.live ∙ empty)
