-- A text as its owner holds it: a length, and a block whose first bytes are the text's.
use Rattle.std.specs.Prelude.{◌≡◌, ℕ, ◌*◌, ◌^◌, ◌≤◌, take, Option, None, Some}
use Rattle.std.specs.List.{concat}
use Rattle.mq_arena.specs.OwnedBlock.{OwnedBlock, IsBlock}
use Rattle.mq_arena.specs.Lent.{place}
use Rattle.mq_arena.specs.declared.page.TheConstants.{PAGE_LEN}
use Rattle.mq_arena.specs.Text.{PlainText, no_text}

-- the first bytes of the block, that many; without a block the empty text
abbrev pub text_of : ℕ → Option OwnedBlock → PlainText
text_of len None = no_text
text_of len (Some b) = record { bytes = take len (concat b.pages); block = Some (place b) }

-- the block has room for that many bytes; without a block there are none
abbrev pub IsText : ℕ → Option OwnedBlock → Type 0
IsText len None = len ≡ 0
IsText len (Some b) = IsBlock b × (len ≤ PAGE_LEN * 2 ^ b.order)
