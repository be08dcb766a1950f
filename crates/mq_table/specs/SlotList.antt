-- The slot list: all that happened in a slot, in which queues are created and removed one after
-- another.
use Rattle.std.specs.Prelude.{◌≡◌, ℕ, ◌+◌, ◌-◌, ◌≤◌, ◌==◌, nat_le, Bool, true, not, ◌&&◌}
use Rattle.std.specs.Prelude.{if◌then◌else◌, List, [], ◌∷◌, ◌++◌, length, take, All, Result}
use Rattle.std.specs.Prelude.{Ok, Err}
use Rattle.mq_queue.specs.declared.event.Event.{Event}
use Rattle.mq_queue.specs.Lawful.{Lawful}
use Rattle.mq_queue.specs.Log.{ends_with_removed}
use Rattle.mq_queue.specs.Row.{made_count, is_live, last_log}
use Rattle.mq_table.specs.declared.refusal.IdRefusal.{IdRefusal}
use Rattle.mq_table.specs.declared.refusal.IdRefusal.TheVariants as refusal

-- the log of the queue that is in the slot now, or no event where none is
abbrev pub live_log : List Event → List Event
live_log events = if is_live events then last_log events else []

-- how many events are before that log
abbrev pub offset : List Event → ℕ
offset events = length events - length (live_log events)

-- what became of an id: no queue was created with it, or its queue is there, or it was removed
pub data Standing : Type 0 where
  Never : Standing
  Live : Standing
  Removed : Standing

-- what became of the id with this seq, by all that happened in its slot
abbrev pub standing : List Event → ℕ → Standing
standing events seq =
    if nat_le (made_count events) seq then Never
    else (if is_live events && (seq + 1 == made_count events) then Live else Removed)

-- whether an id names a queue that is there, or why not
abbrev pub by_standing : Standing → Result (Unit {0}) IdRefusal
by_standing Never = Err refusal.Never
by_standing Live = Ok tt
by_standing Removed = Err refusal.Removed

-- whether a queue can be created in the slot: none is in it, and a seq up to last_seq is left
abbrev pub is_free : ℕ → List Event → Bool
is_free last_seq events = not (is_live events) && nat_le (made_count events) last_seq

-- the logs one after another
abbrev pub joined : List (List Event) → List Event
joined [] = []
joined (log ∷ logs) = log ++ joined logs

-- the events are the logs of the slot's queues one after another, of at most last_seq + 1 queues,
-- and each queue but the last was removed
pub record IsSlotList (last_seq : ℕ) (events : List Event) : Type 0 where
  pub logs : List (List Event)
  pub whole : events ≡ joined logs
  pub few : length logs ≤ last_seq + 1
  pub lawful : All Lawful logs
  pub ended : All (λ log. ends_with_removed log ≡ true) (take (length logs - 1) logs)
