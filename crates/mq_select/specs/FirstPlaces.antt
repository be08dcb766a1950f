-- The place of the first message of each type.
use Rattle.std.specs.Prelude.{◌≡◌, ℕ, ℤ, ◌≤◌, Bool, true, Option, Some, None, List}
use Rattle.std.specs.Map.{lookup}
use Rattle.std.specs.Ordering.{int_eq}

-- the types that have a place, each with it, and for how many more there is room
pub record Firsts : Type 0 where
  pub entries : List (ℤ × ℕ)
  pub spare : ℕ

-- the place of the first message of a type
abbrev pub first_of : Firsts → ℤ → Option ℕ
first_of firsts t = lookup (int_eq t) firsts.entries

-- no type that passes has a place; or this is the place of one that passes, and no place of one
-- that passes is less
abbrev pub IsLeastAt : (ℤ → Bool) → (ℤ → Option ℕ) → Option ℕ → Type 0
IsLeastAt passes at None = (t : ℤ) → passes t ≡ true → at t ≡ None
IsLeastAt passes at (Some least) =
    ((t : ℤ) × (passes t ≡ true) × (at t ≡ Some least))
    × ((t : ℤ) (n : ℕ) → passes t ≡ true → at t ≡ Some n → least ≤ n)
