-- Eight numbers as bytes.
use Rattle.std.specs.Prelude.{ℕ, ◌+◌, ◌*◌, List, [], ◌∷◌, slice_range}
use Rattle.std.specs.Int.{from_le_bytes, to_le_bytes, w64}
use Rattle.std.specs.List.{flat_map}

-- each number in eight bytes, the lowest first
abbrev pub bytes_of_numbers : List ℕ → List ℕ
bytes_of_numbers numbers = flat_map (to_le_bytes w64) numbers

-- the number at a place
abbrev pub number_at : List ℕ → ℕ → ℕ
number_at bytes i = from_le_bytes w64 (slice_range bytes (8 * i) (8 * i + 8))

-- all eight
abbrev pub numbers_in : List ℕ → List ℕ
numbers_in bytes =
    number_at bytes 0 ∷ number_at bytes 1 ∷ number_at bytes 2 ∷ number_at bytes 3
    ∷ number_at bytes 4 ∷ number_at bytes 5 ∷ number_at bytes 6 ∷ number_at bytes 7 ∷ []
