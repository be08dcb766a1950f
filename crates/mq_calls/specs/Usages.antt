-- What is in use (msgctl(2), IPC_INFO and MSG_INFO).
use Rattle.std.specs.Prelude.{ℕ, suc, zero, ◌+◌, ◌-◌, ◌^◌, min, if◌then◌else◌, length}
use Rattle.mq_queue.specs.declared.figures.BoardRow.{BoardRow}
use Rattle.mq_table.specs.KeptShown.{row_now}
use Rattle.mq_calls.specs.State.{QueuesState, slot_at}
use Rattle.mq_calls.specs.declared.usage.Usage.{Usage}

-- a sum that stays at the greatest u64
abbrev pub plus : ℕ → ℕ → ℕ
plus a b = min (a + b) (2 ^ 64 - 1)

-- of so many slots and pages, none in use
abbrev pub no_usage : ℕ → ℕ → Usage
no_usage slots pages = record {
  queues = 0;
  messages = 0;
  bytes = 0;
  greatest = 0;
  slots = slots;
  pages = pages;
}

-- one slot more
abbrev pub used : Usage → ℕ → BoardRow → Usage
used usage slot row =
    if row.live
    then record {
      queues = plus usage.queues 1;
      messages = plus usage.messages row.figures.qnum;
      bytes = plus usage.bytes row.figures.cbytes;
      greatest = slot;
      slots = usage.slots;
      pages = usage.pages;
    }
    else usage

-- the first slots, each as it is shown
unfoldable pub usage_to : Usage → (ℕ → BoardRow) → ℕ → Usage
usage_to none row_of zero = none
usage_to none row_of (suc k) = used (usage_to none row_of k) k (row_of k)

-- the first slots of a state
abbrev pub first_usage : QueuesState → ℕ → Usage
first_usage s =
    usage_to (no_usage (length s.slots) (2 ^ s.arena.height)) (λ k. row_now (slot_at s k))

-- all of them
abbrev pub usage_of : QueuesState → Usage
usage_of s = first_usage s (length s.slots)
