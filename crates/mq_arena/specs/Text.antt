-- Texts as senders and receivers see them.
use Rattle.std.specs.Prelude.{◌≡◌, ℕ, ◌+◌, ◌-◌, ◌*◌, ◌/◌, ◌^◌, nat_lt, List, [], ◌++◌, length, take, drop, replicate, Option, None, Some, IfSome, count_by}
use Rattle.std.specs.List.{concat, range_with_len}
use Rattle.std.specs.Option.{option_map}
use Rattle.mq_tree.specs.Blocks.{PlainBlock}
use Rattle.mq_tree.specs.LentSet.{Lending}
use Rattle.mq_arena.specs.Bytes.{AreWhole}
use Rattle.mq_arena.specs.Lent.{lend}
use Rattle.mq_arena.specs.declared.limits.TheConstants.{MAX_ORDER}
use Rattle.mq_arena.specs.declared.page.TheConstants.{PAGE_LEN}

-- a text: its bytes, and where its block lies if it has one
pub record PlainText : Type 0 where
  pub bytes : List ℕ
  pub block : Option PlainBlock

-- the empty text, which has no block
abbrev pub no_text : PlainText
no_text = record { bytes = []; block = None }

-- how many parts n bytes have: one for each page that they begin
abbrev pub count_of : ℕ → ℕ
count_of n = (n + (PAGE_LEN - 1)) / PAGE_LEN

-- the least order of a block with room for n bytes, where n is at most TEXT_LEN: the number of
-- orders that are too small
abbrev pub order_for : ℕ → ℕ
order_for n = count_by (λ order. nat_lt (PAGE_LEN * 2 ^ order) n) (range_with_len 0 MAX_ORDER)

-- the bytes in part i: those of one page, fewer where they end
abbrev pub text_part : List ℕ → ℕ → List ℕ
text_part bytes i = take PAGE_LEN (drop (PAGE_LEN * i) bytes)

-- the text once these bytes are in part i
abbrev pub with_part : PlainText → ℕ → List ℕ → PlainText
with_part text i part =
    let before = PAGE_LEN * i in
    record {
      bytes = take before text.bytes ++ part ++ drop (before + length part) text.bytes;
      block = text.block;
    }

-- the pages of a text's block: they are whole, and the text's bytes are their first ones
pub record ArePagesOf (text : PlainText) (pages : List (List ℕ)) : Type 0 where
  pub whole : AreWhole pages
  pub count : IfSome text.block (λ b. length pages ≡ 2 ^ b.order)
  pub bytes : text.bytes ≡ take (length text.bytes) (concat pages)

-- the same, and all that stands behind the text's bytes is zero
pub record AreItsAlone (text : PlainText) (pages : List (List ℕ)) : Type 0 where
  pub whole : AreWhole pages
  pub count : IfSome text.block (λ b. length pages ≡ 2 ^ b.order)
  pub bytes : concat pages
      ≡ text.bytes ++ replicate (PAGE_LEN * length pages - length text.bytes) 0

-- a text of these bytes in the block that an arena allocates for it, and the arena after that;
-- `None` where no block fits
abbrev pub text_in : Lending → List ℕ → Option (PlainText × Lending)
text_in arena bytes =
    option_map (λ l. (record { bytes = bytes; block = Some l.0 }, l.1))
    (lend arena (order_for (length bytes)))
