-- The pages that an arena holds, each at the index of its number; an allocated page leaves an empty
-- one there.
use Rattle.std.specs.Prelude.{◌≡◌, ℕ, ◌+◌, ◌<◌, ◌≤◌, ◌⊎◌, List, [], length, slice_index_or}
use Rattle.mq_arena.specs.declared.page.TheConstants.{PAGE_LEN}

-- the arena holds the page with this number: all its bytes are at that index
abbrev pub IsHome : List (List ℕ) → ℕ → Type 0
IsHome homes page = length (slice_index_or homes page []) ≡ PAGE_LEN

-- the arena holds that many pages from start on
abbrev pub AreHome : List (List ℕ) → ℕ → ℕ → Type 0
AreHome homes start count = (page : ℕ) → start ≤ page → page < start + count → IsHome homes page

-- the pages before start and from start + count on are as they were
abbrev pub SameOutside : List (List ℕ) → List (List ℕ) → ℕ → ℕ → Type 0
SameOutside old new start count = (page : ℕ) → (page < start) ⊎ (start + count ≤ page)
    → slice_index_or new page [] ≡ slice_index_or old page []
