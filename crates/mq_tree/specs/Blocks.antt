-- Blocks of pages, after Knowlton, "A fast storage allocator" (CACM 1965). An arena of height h
-- has the pages 0 to 2 ^ h - 1.
use Rattle.std.specs.Prelude.{◌≡◌, ℕ, ◌+◌, ◌%◌, ◌^◌, ◌<◌, ◌≤◌, Bool, ◌&&◌, ◌||◌, ◌==◌, nat_lt, nat_le, List, map}

-- a block: its first page, and its order
pub record PlainBlock : Type 0 where
  pub start : ℕ
  pub order : ℕ

-- the block of that order from that page on
abbrev pub block : ℕ → ℕ → PlainBlock
block start order = record { start = start; order = order }

-- how many pages a block has
abbrev pub page_count : PlainBlock → ℕ
page_count b = 2 ^ b.order

-- the page is one of the block's
pub record HasPage (b : PlainBlock) (page : ℕ) : Type 0 where
  pub from : b.start ≤ page
  pub below : page < b.start + 2 ^ b.order

-- the same as a test
abbrev pub has_page : PlainBlock → ℕ → Bool
has_page b page = nat_le b.start page && nat_lt page (b.start + 2 ^ b.order)

-- a block starts at a multiple of its length
abbrev pub IsAligned : PlainBlock → Type 0
IsAligned b = b.start % 2 ^ b.order ≡ 0

-- its last page is a page of the arena
abbrev pub IsInArena : ℕ → PlainBlock → Type 0
IsInArena height b = b.start + 2 ^ b.order ≤ 2 ^ height

-- no page is in both blocks
abbrev pub AreApart : PlainBlock → PlainBlock → Type 0
AreApart a b = (page : ℕ) → HasPage a page → ¬ HasPage b page

-- the same as a test: the one ends before the other starts
abbrev pub are_apart : PlainBlock → PlainBlock → Bool
are_apart a b = nat_le (a.start + 2 ^ a.order) b.start || nat_le (b.start + 2 ^ b.order) a.start

-- whether the two blocks are the same
abbrev pub is_block : PlainBlock → PlainBlock → Bool
is_block a b = (b.start == a.start) && (b.order == a.order)

-- the blocks, each that many pages further up
abbrev pub moved_up : ℕ → List PlainBlock → List PlainBlock
moved_up pages blocks = map (λ b. block (pages + b.start) b.order) blocks
