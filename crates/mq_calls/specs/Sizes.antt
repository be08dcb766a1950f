-- The sizes of a queue system with one of them changed, or which one is out of its limits.
use Rattle.std.specs.Prelude.{ℕ, nat_le, ◌&&◌, if◌then◌else◌, Result, Ok, Err}
use Rattle.mq_tree.specs.declared.limits.TheConstants.{MAX_HEIGHT}
use Rattle.mq_table.specs.declared.limits.TheConstants.{MAX_SLOTS, MAX_SEQ}
use Rattle.mq_calls.specs.declared.config.Config.{Config}
use Rattle.mq_calls.specs.declared.config_error.ConfigError.{ConfigError}
use Rattle.mq_calls.specs.declared.config_error.ConfigError.TheVariants.{Height, Slots, Seats, LastSeq}
use Rattle.mq_calls.specs.declared.limits.TheConstants.{MAX_SEATS}

-- these sizes with another height
abbrev pub config_with_height : Config → ℕ → Result Config ConfigError
config_with_height c height =
    if nat_le height MAX_HEIGHT then
    Ok (record { height = height; slots = c.slots; seats = c.seats; last_seq = c.last_seq })
    else Err Height

-- these sizes with another number of slots
abbrev pub config_with_slots : Config → ℕ → Result Config ConfigError
config_with_slots c slots =
    if nat_le 1 slots && nat_le slots MAX_SLOTS then
    Ok (record { height = c.height; slots = slots; seats = c.seats; last_seq = c.last_seq })
    else Err Slots

-- these sizes with another number of seats
abbrev pub config_with_seats : Config → ℕ → Result Config ConfigError
config_with_seats c seats =
    if nat_le 1 seats && nat_le seats MAX_SEATS then
    Ok (record { height = c.height; slots = c.slots; seats = seats; last_seq = c.last_seq })
    else Err Seats

-- these sizes with another greatest seq
abbrev pub config_with_last_seq : Config → ℕ → Result Config ConfigError
config_with_last_seq c last_seq =
    if nat_le last_seq MAX_SEQ then
    Ok (record { height = c.height; slots = c.slots; seats = c.seats; last_seq = last_seq })
    else Err LastSeq
