-- The ids of queues.
use Rattle.std.specs.Prelude.{ℕ, ◌+◌, ◌*◌, ◌/◌, ◌%◌}
use Rattle.mq_table.specs.declared.limits.TheConstants.{MAX_SLOTS}

-- the id of the queue in this slot before which seq queues were created there
abbrev pub id_of : ℕ → ℕ → ℕ
id_of slot seq = seq * MAX_SLOTS + slot

-- the slot of an id's queue
abbrev pub slot_of : ℕ → ℕ
slot_of id = id % MAX_SLOTS

-- how many queues were created in its slot before an id's queue
abbrev pub seq_of : ℕ → ℕ
seq_of id = id / MAX_SLOTS
