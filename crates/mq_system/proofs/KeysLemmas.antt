-- The ids in the table of keys, and those of a slot.
use Rattle.std.proofs.Common.{◌≡◌, ℕ, ℤ, pos, ◌-◌, ◌<◌, Bool, true, false, List, [], ◌∷◌, filter, refl, arith}
use Rattle.std.specs.Prelude.{IfSome}
use Rattle.std.specs.Ordering.{int_eq}
use Rattle.std.proofs.lemmas.List.Elements.{All-filter, All-push, All-tail}
use Rattle.mq_arena.specs.Text.{PlainText}
use Rattle.mq_table.specs.Ids.{id_of, seq_of, slot_of}
use Rattle.mq_table.specs.Keys.{entered, id_of_key}
use Rattle.mq_table.specs.Slot.{SlotState, last_id, next_id}
use Rattle.mq_queue.specs.Row.{made_count}
use Rattle.mq_table.specs.declared.limits.TheConstants.{MAX_SLOTS}
use Rattle.mq_system.specs.Shared.{AreWithin}

-- the slot of an id is the one that it was made of
slot_of_id : (slot seq : ℕ) → slot < MAX_SLOTS → slot_of (id_of slot seq) ≡ slot
slot_of_id slot seq low = omega arith

-- and so is its seq
pub seq_of_id : (slot seq : ℕ) → slot < MAX_SLOTS → seq_of (id_of slot seq) ≡ seq
seq_of_id slot seq low = omega (arith, low)

pub slot_of_last : (s : SlotState PlainText) → s.number < MAX_SLOTS → slot_of (last_id s) ≡ s.number
slot_of_last s low = slot_of_id s.number (made_count s.events - 1) low

pub slot_of_next : (s : SlotState PlainText) → s.number < MAX_SLOTS → slot_of (next_id s) ≡ s.number
slot_of_next s low = slot_of_id s.number (made_count s.events) low

pub seq_of_last : (s : SlotState PlainText) → s.number < MAX_SLOTS
    → seq_of (last_id s) ≡ made_count s.events - 1
seq_of_last s low = seq_of_id s.number (made_count s.events - 1) low

-- an id that is found is in the table
pub found_within : (slots : ℕ) (keys : List (ℤ × ℕ)) (key : ℤ) → AreWithin slots keys
    → IfSome (id_of_key keys key) (λ id. slot_of id < slots)
found_within slots [] key h = tt
found_within slots (e ∷ es) key h =
    by (int_eq e.0 key) refl (found_within slots es key (All-tail (λ p. slot_of p.1 < slots) e es h))
  where
    by : (b : Bool) → int_eq e.0 key ≡ b → IfSome (id_of_key es key) (λ id. slot_of id < slots)
        → IfSome (id_of_key (e ∷ es) key) (λ id. slot_of id < slots)
    by true same rest = rw same (h 0 e (omega arith))
    by false same rest = rw same rest

-- what a test leaves of the table
pub left_within : (passes : ℤ × ℕ → Bool) (slots : ℕ) (keys : List (ℤ × ℕ)) → AreWithin slots keys
    → AreWithin slots (filter passes keys)
left_within passes slots keys h = All-filter passes (λ p. slot_of p.1 < slots) keys h

-- the table once a queue was made in one of the slots
pub entered_within : (slots : ℕ) (keys : List (ℤ × ℕ)) (key : ℤ) (id : ℕ) → AreWithin slots keys
    → slot_of id < slots → AreWithin slots (entered key id keys)
entered_within slots keys key id h low = by (int_eq key (pos 0)) refl
  where
    by : (b : Bool) → int_eq key (pos 0) ≡ b → AreWithin slots (entered key id keys)
    by true is = rw is h
    by false is = rw is (All-push (λ p. slot_of p.1 < slots) keys (key, id) h low)
