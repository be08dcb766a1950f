-- The allocated blocks, as a list in the order of their starts, and the free pages.
use Rattle.std.specs.Prelude.{ℕ, ◌^◌, ◌<◌, Bool, not, nat_lt, List, [], ◌∷◌, All, AllPairs, filter, count_by, if◌then◌else◌}
use Rattle.std.specs.List.{list_any, list_all, range_with_len}
use Rattle.mq_tree.specs.Blocks.{PlainBlock, IsAligned, IsInArena, AreApart, is_block, has_page}

-- what callers see of an `OrderTree`: its height, and the allocated blocks
pub record Lending : Type 0 where
  pub height : ℕ
  pub lent : List PlainBlock

-- the arena with these blocks allocated
abbrev pub with_lent : Lending → List PlainBlock → Lending
with_lent arena lent = record { height = arena.height; lent = lent }

-- the one block starts before the other
abbrev pub StartsBefore : PlainBlock → PlainBlock → Type 0
StartsBefore a b = a.start < b.start

-- aligned blocks in the arena, no two with a common page, in the order of their starts
pub record IsLentSet (height : ℕ) (lent : List PlainBlock) : Type 0 where
  pub aligned : All IsAligned lent
  pub in_arena : All (IsInArena height) lent
  pub apart : AllPairs AreApart lent
  pub in_order : AllPairs StartsBefore lent

-- the lent set when this block is allocated too
abbrev pub inserted : PlainBlock → List PlainBlock → List PlainBlock
inserted b [] = b ∷ []
inserted b (c ∷ cs) = if nat_lt b.start c.start then b ∷ c ∷ cs else c ∷ inserted b cs

-- the lent set without this block
abbrev pub left : PlainBlock → List PlainBlock → List PlainBlock
left b lent = filter (λ c. not (is_block b c)) lent

-- whether this very block is allocated
abbrev pub is_lent : PlainBlock → List PlainBlock → Bool
is_lent b lent = list_any (is_block b) lent

-- whether the page is in no allocated block
abbrev pub is_free_page : List PlainBlock → ℕ → Bool
is_free_page lent page = list_all (λ b. not (has_page b page)) lent

-- how many pages of the arena are in no allocated block
unfoldable pub free_pages : ℕ → List PlainBlock → ℕ
free_pages height lent = count_by (is_free_page lent) (range_with_len 0 (2 ^ height))
