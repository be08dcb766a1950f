-- A binary heap by place, in a list of types with their places.
use Rattle.std.specs.Prelude.{◌≡◌, ◌≢◌, ℕ, ℤ, pos, ◌+◌, ◌*◌, ◌<◌, ◌≤◌, Bool, true, false}
use Rattle.std.specs.Prelude.{Option, Some, None, List, length, slice_index_or}
use Rattle.std.specs.Ordering.{int_eq}
use Rattle.indexmap.specs.IndexMap.{IndexMap, get, spare}

-- the place at an index
abbrev pub place_at : List (ℤ × ℕ) → ℕ → ℕ
place_at es i = (slice_index_or es i (pos 0, 0)).1

-- the type at an index
abbrev pub type_at : List (ℤ × ℕ) → ℕ → ℤ
type_at es i = (slice_index_or es i (pos 0, 0)).0

-- no entry's type passes; or that of this entry does, and no entry whose type passes has a lesser
-- place
abbrev pub IsLeastEntry : (ℤ → Bool) → List (ℤ × ℕ) → Option ℕ → Type 0
IsLeastEntry passes es None = (k : ℕ) → k < length es → passes (type_at es k) ≡ false
IsLeastEntry passes es (Some i) =
    (i < length es) × (passes (type_at es i) ≡ true)
    × ((k : ℕ) → k < length es → passes (type_at es k) ≡ true → place_at es i ≤ place_at es k)

-- entry c stands directly below entry j
abbrev pub IsBelow : ℕ → ℕ → Type 0
IsBelow j c = (2 * j < c) × (c ≤ 2 * j + 2)

-- no entry has a place above that of one below it
abbrev pub IsHeap : List (ℤ × ℕ) → Type 0
IsHeap es = (j c : ℕ) → IsBelow j c → c < length es → place_at es j ≤ place_at es c

-- what stands above an entry is at most what stands below it
abbrev pub IsHeapAround : ℕ → List (ℤ × ℕ) → Type 0
IsHeapAround i es =
    (j c : ℕ) → IsBelow j i → IsBelow i c → c < length es → place_at es j ≤ place_at es c

-- the entry above this one where its place is greater; or there is none such
abbrev pub IsGreaterAbove : List (ℤ × ℕ) → ℕ → Option ℕ → Type 0
IsGreaterAbove es i None = (j : ℕ) → IsBelow j i → place_at es j ≤ place_at es i
IsGreaterAbove es i (Some j) = IsBelow j i × (place_at es i < place_at es j)

-- of the entries below this one, one with the least place; or there are none
abbrev pub IsLeastUnder : List (ℤ × ℕ) → ℕ → Option ℕ → Type 0
IsLeastUnder es i None = length es ≤ 2 * i + 1
IsLeastUnder es i (Some c) =
    IsBelow i c × (c < length es)
    × ((d : ℕ) → IsBelow i d → d < length es → place_at es c ≤ place_at es d)

-- that one where its place is less than this one's; or there is none such
abbrev pub IsLesserUnder : List (ℤ × ℕ) → ℕ → Option ℕ → Type 0
IsLesserUnder es i None =
    (c : ℕ) → IsBelow i c → c < length es → place_at es i ≤ place_at es c
IsLesserUnder es i (Some c) =
    IsBelow i c × (c < length es) × (place_at es c < place_at es i)
    × ((d : ℕ) → IsBelow i d → d < length es → place_at es c ≤ place_at es d)

-- a heap, but that entry i may have a lesser place than the one above it
pub record IsHeapUpTo (i : ℕ) (es : List (ℤ × ℕ)) : Type 0 where
  pub inside : i < length es
  pub others : (j c : ℕ) → IsBelow j c → c < length es → c ≢ i → place_at es j ≤ place_at es c
  pub around : IsHeapAround i es

-- a heap, but that entry i may have a greater place than one below it
pub record IsHeapDownTo (i : ℕ) (es : List (ℤ × ℕ)) : Type 0 where
  pub inside : i < length es
  pub others : (j c : ℕ) → IsBelow j c → c < length es → j ≢ i → place_at es j ≤ place_at es c
  pub around : IsHeapAround i es

-- a heap, but for what entry i is to the one above it and to those below it
pub record IsHeapBut (i : ℕ) (es : List (ℤ × ℕ)) : Type 0 where
  pub inside : i < length es
  pub others : (j c : ℕ) → IsBelow j c → c < length es → j ≢ i → c ≢ i →
      place_at es j ≤ place_at es c
  pub around : IsHeapAround i es

-- a heap of the same entries as before, with no less room
pub record IsHeapOf {S : Type 0} (old new : IndexMap ℤ ℕ S) : Type 0 where
  pub heap : IsHeap new.entries
  pub at : (t : ℤ) → get int_eq new t ≡ get int_eq old t
  pub room : spare old ≤ spare new
