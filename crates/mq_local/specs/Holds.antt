-- What holds of the keys of a queue system.
use Rattle.std.specs.Prelude.{◌≡◌, ◌≢◌, ◌↔◌, ℕ, ℤ, pos, true, List, Any, Contains}
use Rattle.mq_arena.specs.Text.{PlainText}
use Rattle.mq_table.specs.Kept.{KeptSlot, is_live_kept}
use Rattle.mq_table.specs.KeptShown.{last_id_now}

-- a queue is in the slot, which was made with this key and has this id
pub record HasQueue (key : ℤ) (id : ℕ) (slot : KeptSlot PlainText) : Type 0 where
  pub live : is_live_kept slot ≡ true
  pub made : slot.key ≡ key
  pub named : last_id_now slot ≡ id

-- the table has a key and an id exactly where a queue in a slot has both; key 0 is not kept
abbrev pub AreKeysOf : List (KeptSlot PlainText) → List (ℤ × ℕ) → Type 0
AreKeysOf slots keys =
    (key : ℤ) (id : ℕ) → Contains keys (key, id) ↔ ((key ≢ pos 0) × Any (HasQueue key id) slots)
