-- The names of a system that a caller picks: those of its ledgers and boards, and its size.
use Rattle.std.proofs.Common.{◌≡◌, ◌+◌, vec_len, refl}
use Rattle.mq_board.specs.declared.naming.Naming as naming
use Rattle.mq_board.specs.Named.{board_of, roll_of}
use Rattle.mq_board.proofs.Names.{named}
use Rattle.mq_calls.specs.declared.config.Config.{Config}
use Rattle.mq_system.specs.Sizes.{AreNames}
use Rattle.mq_system.specs.declared.blanks.Blanks.{Blanks}
use Rattle.mq_system.specs.declared.names.Names as names

-- those of the ledgers, and the size
abbrev pub names_of : {X : Type 0} → Blanks → Config → names.Ghosts X
names_of blanks config = record {
  pages = blanks.pages.name;
  page_parts = blanks.pages.parts;
  height = config.height;
  entries = blanks.entries.name;
  slots = config.slots;
  seats = config.seats;
  last_seq = config.last_seq;
}

-- those of the boards
abbrev pub books_of : {X : Type 0} → Blanks → naming.Ghosts X
books_of blanks = record {
  board = board_of blanks.boards.items;
  roll = roll_of blanks.boards.items;
}

-- what was made for a system of this size has these names
pub names_are : {X : Type 0} (blanks : Blanks) (config : Config)
    → blanks.entries.parts ≡ config.slots + config.seats → vec_len blanks.boards ≡ config.slots
    → AreNames {X = X} (names_of blanks config) (books_of blanks) blanks config
names_are blanks config entries opened = record {
  pages = refl;
  page_parts = refl;
  entries = refl;
  entry_parts = entries;
  opened = opened;
  boards = named blanks.boards.items;
  height = refl;
  slots = refl;
  seats = refl;
  last_seq = refl;
}
