-- The bytes of pages that lie one after another.
use Rattle.std.specs.Prelude.{◌≡◌, ℕ, ◌-◌, ◌==◌, List, [], ◌∷◌, ◌++◌, length, take, drop, replicate, All, if◌then◌else◌}
use Rattle.mq_arena.specs.declared.page.TheConstants.{PAGE_LEN}

-- each page has all its bytes: none is empty
abbrev pub AreWhole : List (List ℕ) → Type 0
AreWhole pages = All (λ page. length page ≡ PAGE_LEN) pages

-- the pages of the first bytes, that many, with the last one truncated where they end
abbrev pub cut_parts : ℕ → List (List ℕ) → List (List ℕ)
cut_parts len [] = []
cut_parts len (page ∷ pages) =
    if len == 0 then [] else (take len page ∷ cut_parts (len - PAGE_LEN) pages)

-- a page once these bytes are written over its first ones
abbrev pub over : List ℕ → List ℕ → List ℕ
over bytes page = bytes ++ drop (length bytes) page

-- pages of n bytes once these bytes are written over the first ones, page after page
abbrev pub filled : ℕ → List (List ℕ) → List ℕ → List (List ℕ)
filled n [] bytes = []
filled n (page ∷ pages) bytes = over (take n bytes) page ∷ filled n pages (drop n bytes)

-- that many pages with these bytes in the first ones, and zeros behind them
abbrev pub pages_with : ℕ → List ℕ → List (List ℕ)
pages_with count bytes = filled PAGE_LEN (replicate count (replicate PAGE_LEN 0)) bytes
