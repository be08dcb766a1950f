-- What a queue system keeps true.
use Rattle.std.specs.Prelude.{◌≡◌, ℕ, ℤ, ◌<◌, ◌≤◌, List, [], length, slice_index_or, All}
use Rattle.mq_arena.specs.Text.{PlainText}
use Rattle.mq_table.specs.Kept.{KeptSlot}
use Rattle.mq_table.specs.KeptPart.{IsLawfulSlot, WaitsNow}
use Rattle.mq_table.specs.SlotParts.{empty_kept}
use Rattle.mq_table.specs.declared.limits.TheConstants.{MAX_SLOTS, MAX_SEQ}
use Rattle.mq_local.specs.Holds.{AreKeysOf}
use Rattle.mq_calls.specs.Texts.{bytes_of}

-- each slot has the number of its index, keeps its part of a slot list up to the system's last seq,
-- and its messages are those that this part leaves pending; the key table has the keys of the
-- queues in the slots; and there is room for what `close` returns
pub record IsKept {C : Type 0} (slots : List (KeptSlot PlainText)) (keys : List (ℤ × ℕ))
    (last_seq : ℕ) (closed : List C) (room : ℕ) : Type 0 where
  pub placed : (k : ℕ) → k < length slots → (slice_index_or slots k (empty_kept k)).number ≡ k
  pub lawful : All (IsLawfulSlot last_seq) slots
  pub waits : All (WaitsNow bytes_of) slots
  pub keyed : AreKeysOf slots keys
  pub few : length slots ≤ MAX_SLOTS
  pub bounded : last_seq ≤ MAX_SEQ
  pub none_closed : closed ≡ []
  pub reserved : length slots ≤ room
