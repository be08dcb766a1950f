-- The first message of the lowest type within a bound, by one reading of the list, in which a
-- message is its type and its place.
use Rattle.std.specs.Prelude.{ℕ, ℤ, pos, int_lt, int_le, if◌then◌else◌, Option, Some, None, List, filter, fold}

-- the first message of the lowest type so far, once there is one more message
abbrev pub lower_first_of : {X : Type 0} → Option (ℤ × X) → ℤ × X → Option (ℤ × X)
lower_first_of None next = Some next
lower_first_of (Some least) next = Some (if int_lt next.0 least.0 then next else least)

-- the first of the messages whose type is the lowest that is at most the bound
abbrev pub first_lowest : {X : Type 0} → ℕ → List (ℤ × X) → Option (ℤ × X)
first_lowest bound messages =
    fold lower_first_of None (filter (λ m. int_le m.0 (pos bound)) messages)
