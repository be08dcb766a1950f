-- What holds of the lowest type within a bound, whatever types are pending.
use Rattle.std.specs.Prelude.{ℕ, ℤ, pos, ◌≤ℤ◌, ◌<ℤ◌, Option, Some, None, List, All, Contains}
use Rattle.mq_message.specs.Selection.{least_of}

-- no type is within the bound; or this one is, and no type within it is lower
abbrev pub IsLowest : ℕ → List ℤ → Option ℤ → Type 0
IsLowest bound types None = All (λ t. pos bound <ℤ t) types
IsLowest bound types (Some least) =
    Contains types least × (least ≤ℤ pos bound) × All (λ t. t ≤ℤ pos bound → least ≤ℤ t) types

-- `least_of` finds the lowest type within a bound
abbrev pub FindsTheLowest : Type 0
FindsTheLowest = (bound : ℕ) (types : List ℤ) → IsLowest bound types (least_of bound types)
