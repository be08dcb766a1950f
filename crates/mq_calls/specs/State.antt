-- All that a queue system keeps.
use Rattle.std.specs.Prelude.{ℕ, ℤ, List, slice_index_or, slice_set}
use Rattle.mq_tree.specs.LentSet.{Lending}
use Rattle.mq_arena.specs.Text.{PlainText}
use Rattle.mq_table.specs.Kept.{KeptSlot}
use Rattle.mq_table.specs.SlotParts.{empty_kept}

-- what the arena has allocated, what is kept of the slots, the keys of the live queues with their
-- ids in the order of creation, and the seq with which a slot is used up
pub record QueuesState : Type 0 where
  pub arena : Lending
  pub slots : List (KeptSlot PlainText)
  pub keys : List (ℤ × ℕ)
  pub last_seq : ℕ

-- the slot with this number
abbrev pub slot_at : QueuesState → ℕ → KeptSlot PlainText
slot_at s k = slice_index_or s.slots k (empty_kept k)

-- the state with another arena
abbrev pub with_arena : QueuesState → Lending → QueuesState
with_arena s arena = record s { arena = arena }

-- the state with another slot k
abbrev pub with_slot : QueuesState → ℕ → KeptSlot PlainText → QueuesState
with_slot s k slot = record s { slots = slice_set s.slots k slot }
