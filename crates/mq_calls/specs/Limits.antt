-- The sizes of a queue system, and how it starts.
use Rattle.std.specs.Prelude.{ℕ, nat_le, ◌≤◌, ◌&&◌, Bool, List, [], map}
use Rattle.std.specs.List.{range_with_len}
use Rattle.mq_tree.specs.declared.limits.TheConstants.{MAX_HEIGHT}
use Rattle.mq_arena.specs.Text.{PlainText}
use Rattle.mq_table.specs.Kept.{KeptSlot}
use Rattle.mq_table.specs.SlotParts.{empty_kept}
use Rattle.mq_table.specs.declared.limits.TheConstants.{MAX_SLOTS, MAX_SEQ}
use Rattle.mq_calls.specs.State.{QueuesState}
use Rattle.mq_calls.specs.declared.config.Config.{Config}
use Rattle.mq_calls.specs.declared.limits.TheConstants.{MAX_SEATS}

-- the limits of a queue system
abbrev pub keeps_limits : Config → Bool
keeps_limits c =
    nat_le c.height MAX_HEIGHT && nat_le 1 c.slots && nat_le c.slots MAX_SLOTS && nat_le 1 c.seats
    && nat_le c.seats MAX_SEATS && nat_le c.last_seq MAX_SEQ

-- the same, as facts
pub record IsWithin (c : Config) : Type 0 where
  pub height : c.height ≤ MAX_HEIGHT
  pub some_slot : 1 ≤ c.slots
  pub slots : c.slots ≤ MAX_SLOTS
  pub some_seat : 1 ≤ c.seats
  pub seats : c.seats ≤ MAX_SEATS
  pub last_seq : c.last_seq ≤ MAX_SEQ

-- slots in which no queue was created
abbrev pub empty_slots : ℕ → List (KeptSlot PlainText)
empty_slots count = map empty_kept (range_with_len 0 count)

-- no queue is created, and no block is allocated
abbrev pub empty_queues : Config → QueuesState
empty_queues c = record {
  arena = record { height = c.height; lent = [] };
  slots = empty_slots c.slots;
  keys = [];
  last_seq = c.last_seq;
}
