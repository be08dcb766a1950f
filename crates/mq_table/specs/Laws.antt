-- Facts about ids, for any slot list.
use Rattle.std.specs.Prelude.{◌≡◌, ℕ, ◌<◌, List, ◌++◌}
use Rattle.mq_queue.specs.declared.event.Event.{Event}
use Rattle.mq_table.specs.Ids.{id_of, slot_of, seq_of}
use Rattle.mq_table.specs.SlotList.{IsSlotList, standing, Removed}
use Rattle.mq_table.specs.declared.limits.TheConstants.{MAX_SLOTS}

-- an id's slot and seq are those that it was made of, and it is the id of its slot and seq
abbrev pub IdsInvert : Type 0
IdsInvert =
    ((slot seq : ℕ) → slot < MAX_SLOTS
    → (slot_of (id_of slot seq) ≡ slot) × (seq_of (id_of slot seq) ≡ seq))
    × ((id : ℕ) → id_of (slot_of id) (seq_of id) ≡ id)

-- an id whose queue was removed stays so, whatever else happens in its slot
abbrev pub StaysRemoved : Type 0
StaysRemoved = (last_seq : ℕ) (events more : List Event) (seq : ℕ)
    → IsSlotList last_seq (events ++ more)
    → standing events seq ≡ Removed → standing (events ++ more) seq ≡ Removed
