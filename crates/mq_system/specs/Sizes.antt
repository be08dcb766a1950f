-- The sizes of a system, and how its names are those of its parts.
use Rattle.std.specs.Prelude.{◌≡◌, ℕ, ◌+◌, ◌*◌, ◌^◌, ◌<◌, ◌≤◌, List, [], vec_len}
use Rattle.mq_board.specs.declared.naming.Naming as naming
use Rattle.mq_board.specs.Named as boards
use Rattle.mq_table.specs.declared.limits.TheConstants.{MAX_SLOTS, MAX_SEQ}
use Rattle.mq_calls.specs.declared.config.Config.{Config}
use Rattle.mq_system.specs.declared.blanks.Blanks.{Blanks}
use Rattle.mq_system.specs.declared.names.Names.{Ghosts}
use Rattle.mq_system.specs.declared.seat.TheConstants.{MAX_COUNT}

-- the names are those of these ledgers and boards and of this size; the ledger of entries has a
-- part for each slot and one for each seat
pub record AreNames {X : Type 0} (names : Ghosts X) (books : naming.Ghosts X) (blanks : Blanks)
    (config : Config) : Type 0 where
  pub pages : blanks.pages.name ≡ names.pages
  pub page_parts : blanks.pages.parts ≡ names.page_parts
  pub entries : blanks.entries.name ≡ names.entries
  pub entry_parts : blanks.entries.parts ≡ names.slots + names.seats
  pub opened : vec_len blanks.boards ≡ names.slots
  pub boards : boards.AreNamed books.board books.roll 0 blanks.boards.items
  pub height : config.height ≡ names.height
  pub slots : config.slots ≡ names.slots
  pub seats : config.seats ≡ names.seats
  pub last_seq : config.last_seq ≡ names.last_seq

-- all changes that the seats can make: the greatest count for each seat and slot
abbrev pub all_changes : ℕ → ℕ → ℕ
all_changes slots seats = seats * (slots * MAX_COUNT)

-- a place for each slot, of which there is one at least, and as many as ids have numbers for at
-- most; room for what `close` returns; and what all parts of the ledger of entries have together is
-- all that the seats can make
pub record IsSystem {C : Type 0} (slots seats last_seq height places stored_seq pages : ℕ)
    (closed : List C) (room parts amount : ℕ) : Type 0 where
  pub placed : places ≡ slots
  pub some : 0 < slots
  pub few : slots ≤ MAX_SLOTS
  pub last : stored_seq ≡ last_seq
  pub bounded : last_seq ≤ MAX_SEQ
  pub sized : pages ≡ 2 ^ height
  pub none_closed : closed ≡ []
  pub reserved : slots ≤ room
  pub parted : parts ≡ slots + seats
  pub settled : amount ≡ all_changes slots seats
