-- The laws of allocation, each a clause of the function of `laws`.
use Rattle.std.specs.Prelude.{◌≡◌, ℕ, ◌+◌, ◌^◌, ◌≤◌, ◌↔◌, true, List, Some, None, IsSome, IsSomeAnd, Contains, sum_by}
use Rattle.mq_tree.specs.Blocks.{PlainBlock, block, HasPage, page_count}
use Rattle.mq_tree.specs.LentSet.{IsLentSet, inserted, left, is_lent, free_pages}
use Rattle.mq_tree.specs.Fit.{fit, largest, IsFit, HasNoFit}

-- `fit` returns the least start that is aligned, in the arena and free, and only that one; `None`
-- exactly where there is no such start
abbrev pub FitIsLeast : Type 0
FitIsLeast =
    (height : ℕ) (lent : List PlainBlock) (order : ℕ)
    → ((start : ℕ) → (fit height lent order ≡ Some start) ↔ IsFit height lent order start)
    × ((fit height lent order ≡ None) ↔ HasNoFit height lent order)

-- the largest order fits, and each order that fits is at most that
abbrev pub LargestFits : Type 0
LargestFits =
    (height : ℕ) (lent : List PlainBlock)
    → ((most : ℕ) → largest height lent ≡ Some most → IsSome (fit height lent most))
    × ((order : ℕ)
    → IsSome (fit height lent order) → IsSomeAnd (largest height lent) (λ most. order ≤ most))

-- a page of an allocated block is in no other allocated block
abbrev pub LentSetIsApart : Type 0
LentSetIsApart =
    (height : ℕ) (lent : List PlainBlock) (a b : PlainBlock) (page : ℕ)
    → IsLentSet height lent → Contains lent a → Contains lent b
    → HasPage a page → HasPage b page → a ≡ b

-- allocating a block that fits and freeing it restores the lent set; a lent set with one more block
-- that fits, or with one less, is a lent set
abbrev pub StaysLentSet : Type 0
StaysLentSet =
    (height : ℕ) (lent : List PlainBlock)
    → ((order start : ℕ) → fit height lent order ≡ Some start
    → (left (block start order) (inserted (block start order) lent) ≡ lent)
    × (IsLentSet height lent → IsLentSet height (inserted (block start order) lent)))
    × ((b : PlainBlock) → IsLentSet height lent → IsLentSet height (left b lent))

-- the free pages and the lengths of the allocated blocks add up to the arena; allocating a block
-- takes its pages from the free ones, and freeing an allocated block returns them
abbrev pub FreePagesAddUp : Type 0
FreePagesAddUp =
    (height : ℕ) (lent : List PlainBlock)
    → (IsLentSet height lent → free_pages height lent + sum_by page_count lent ≡ 2 ^ height)
    × ((order start : ℕ) → fit height lent order ≡ Some start
    → free_pages height lent ≡ free_pages height (inserted (block start order) lent) + 2 ^ order)
    × ((b : PlainBlock) → IsLentSet height lent → is_lent b lent ≡ true
    → free_pages height (left b lent) ≡ free_pages height lent + 2 ^ b.order)
