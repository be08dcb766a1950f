-- What a system leaves at its end.
use Rattle.std.specs.Prelude.{◌≡◌, ℕ, ◌+◌, List, length}
use Rattle.std.specs.List.{flat_map}
use Rattle.mq_tree.specs.LentSet.{Lending}
use Rattle.mq_arena.specs.Text.{PlainText}
use Rattle.mq_queue.specs.declared.event.Event.{Event}
use Rattle.mq_queue.specs.Waiting.{waiting}
use Rattle.mq_table.specs.Cut.{CutState, IsCutOf, cut_of}
use Rattle.mq_table.specs.Kept.{KeptSlot}
use Rattle.mq_table.specs.SlotList.{IsSlotList, live_log}
use Rattle.mq_calls.specs.Texts.{spends_all}
use Rattle.mq_calls.specs.declared.close.ClosedSlot.{ClosedSlot}

-- what a slot leaves: a drain of its list, and how many messages were pending
pub record Ending : Type 0 where
  pub cut : CutState
  pub left : ℕ

-- how a slot ends
abbrev pub ends : {B : Type 0} → KeptSlot B → Ending
ends slot = record { cut = cut_of slot; left = length slot.messages }

-- the drain of its list that a closed slot leaves
abbrev pub cut_in : ClosedSlot → CutState
cut_in slot = record {
  first = slot.first;
  made = slot.made;
  base = slot.base;
  past = slot.past.items;
  last = slot.last.items;
}

-- how a slot that was closed ended
abbrev pub ending_of : ClosedSlot → Ending
ending_of slot = record { cut = cut_in slot; left = slot.left }

-- a slot ended with this list: it leaves a drain of it, and as many messages as are pending by it
pub record IsEndOf (last_seq : ℕ) (list : List Event) (slot : ClosedSlot) : Type 0 where
  pub lawful : IsSlotList last_seq list
  pub kept : IsCutOf list (cut_in slot)
  pub left : slot.left ≡ length (waiting (live_log list))

-- a slot ended with some slot list
pub record IsClosed (last_seq : ℕ) (slot : ClosedSlot) : Type 0 where
  pub list : List Event
  pub is : IsEndOf last_seq list slot

-- how many entries a slot that was closed had: those that were drained before, and those that it
-- leaves
abbrev pub entries_at_end : ClosedSlot → ℕ
entries_at_end slot = slot.first + length slot.past.items + length slot.last.items

-- the arena once the blocks of the pending messages of all slots are freed
abbrev pub all_home : List (KeptSlot PlainText) → Lending → Lending
all_home slots arena = spends_all (flat_map (λ slot. slot.messages) slots) arena
