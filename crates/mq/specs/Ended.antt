-- What the queues of a program leave.
use Rattle.std.specs.Prelude.{◌≡◌, ℕ, ◌^◌, ◌≤◌, All, List, length, map}
use Rattle.mq_tree.specs.LentSet.{Lending, free_pages}
use Rattle.mq_calls.specs.Closed.{IsClosed, all_home, ending_of, ends}
use Rattle.mq_calls.specs.State.{QueuesState}
use Rattle.mq_calls.specs.declared.close.ClosedSlot.{ClosedSlot}
use Rattle.mq_calls.specs.declared.config.Config.{Config}
use Rattle.mq_system.specs.Seat.{SeatState, counted_by}
use Rattle.mq_system.specs.Closed.{AreDistinct, IsEnd, entries_in}
use Rattle.mq.specs.declared.ended.Ended.{Ended}

-- a program left each of so many slots closed, and no more pages than there are
pub record IsEnded {A : Type 0} (slots last_seq height : ℕ) (ended : Ended A) : Type 0 where
  pub slots_each : length ended.slots.items ≡ slots
  pub closed : All (IsClosed last_seq) ended.slots.items
  pub free : ended.free_pages ≤ 2 ^ height

-- how many pages are free once all pending texts are freed
abbrev pub free_at_end : QueuesState → ℕ
free_at_end s =
    let home : Lending = all_home s.slots s.arena in
    free_pages home.height home.lent

-- the slots are those of the state in which the program ended, and so are the pages
pub record Leaves {A : Type 0} (left : QueuesState) (ended : Ended A) : Type 0 where
  pub slots : map ending_of ended.slots.items ≡ map ends left.slots
  pub pages : ended.free_pages ≡ free_at_end left

-- what happened in these slots are the changes of these seats, each of which has another number:
-- each slot's list begins as each seat knows it, and has what the seats count there
pub record AreChanges (last_seq : ℕ) (seats : List SeatState) (slots : List ClosedSlot)
    : Type 0 where
  pub numbers : AreDistinct seats
  pub end : IsEnd last_seq seats slots
  pub total : entries_in slots ≡ counted_by seats

-- what is known after a program's run holds of its answer, and of the seats whose changes are in
-- the slots
pub record IsAfterAll {Q A : Type 0} (after : Q → Config → List SeatState → A → Type 0)
    (program : Q) (config : Config) (ended : Ended A) : Type 0 where
  pub seats : List SeatState
  pub run : after program config seats ended.answer
  pub changes : AreChanges config.last_seq seats ended.slots.items
