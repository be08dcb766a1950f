-- Where a block fits: the first place that is aligned, in the arena and free.
use Rattle.std.specs.Prelude.{ℕ, ◌+◌, ◌%◌, ◌^◌, ◌≤◌, zero, suc, Bool, ◌&&◌, ◌==◌, nat_le, List, Option, Some, None, All, find, is_some, if◌then◌else◌}
use Rattle.std.specs.List.{list_all, range_with_len}
use Rattle.mq_tree.specs.Blocks.{PlainBlock, block, IsAligned, IsInArena, HasPage, are_apart}

-- whether a block of that order could be allocated at that start
abbrev pub fits_at : ℕ → List PlainBlock → ℕ → ℕ → Bool
fits_at height lent order start =
    (start % 2 ^ order == 0) && nat_le (start + 2 ^ order) (2 ^ height)
    && list_all (are_apart (block start order)) lent

-- the first start at which a block of that order could be allocated
unfoldable pub fit : ℕ → List PlainBlock → ℕ → Option ℕ
fit height lent order = find (fits_at height lent order) (range_with_len 0 (2 ^ height))

-- the largest order below n that fits
abbrev pub largest_below : ℕ → ℕ → List PlainBlock → Option ℕ
largest_below zero height lent = None
largest_below (suc n) height lent =
    if is_some (fit height lent n) then Some n else largest_below n height lent

-- the largest order that fits
unfoldable pub largest : ℕ → List PlainBlock → Option ℕ
largest height lent = largest_below (suc height) height lent

-- the page is in no allocated block
abbrev pub IsFreePage : List PlainBlock → ℕ → Type 0
IsFreePage lent page = All (λ b. ¬ HasPage b page) lent

-- a block of that order fits at that start: aligned, in the arena, each of its pages free
pub record Fits (height : ℕ) (lent : List PlainBlock) (order start : ℕ) : Type 0 where
  pub aligned : IsAligned (block start order)
  pub in_arena : IsInArena height (block start order)
  pub free : (page : ℕ) → HasPage (block start order) page → IsFreePage lent page

-- it fits there, and at no smaller start
pub record IsFit (height : ℕ) (lent : List PlainBlock) (order start : ℕ) : Type 0 where
  pub fits : Fits height lent order start
  pub least : (other : ℕ) → Fits height lent order other → start ≤ other

-- it fits nowhere
abbrev pub HasNoFit : ℕ → List PlainBlock → ℕ → Type 0
HasNoFit height lent order = (start : ℕ) → ¬ Fits height lent order start
