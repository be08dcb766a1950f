-- The bytes of values, with numbers in little-endian order. Where a number is out of its type's
-- range, the list is one that no bytes begin with. The definition for each type is opaque where a
-- proof does not unfold it.
use Rattle.std.specs.Prelude.{ℕ, ◌^◌, nat_lt, nat_eq, ℤ, pos, negsuc, Bool, true, false, List, [], ◌∷◌, ◌++◌, length, Option, Some, None}
use Rattle.std.specs.Int.{w8, w16, w32, w64, cast_unsigned, to_le_bytes}

-- these bytes where the test holds, else one that is no byte
abbrev pub bytes_if : Bool → List ℕ → List ℕ
bytes_if true bytes = bytes
bytes_if false bytes = 256 ∷ []

unfoldable pub u16_bytes : ℕ → List ℕ
u16_bytes n = bytes_if (nat_lt n (2 ^ 16)) (to_le_bytes w16 n)

unfoldable pub u32_bytes : ℕ → List ℕ
u32_bytes n = bytes_if (nat_lt n (2 ^ 32)) (to_le_bytes w32 n)

unfoldable pub u64_bytes : ℕ → List ℕ
u64_bytes n = bytes_if (nat_lt n (2 ^ 64)) (to_le_bytes w64 n)

-- whether a number is from -limit to limit - 1
abbrev pub is_signed : ℕ → ℤ → Bool
is_signed limit (pos n) = nat_lt n limit
is_signed limit (negsuc n) = nat_lt n limit

unfoldable pub i8_bytes : ℤ → List ℕ
i8_bytes z = bytes_if (is_signed (2 ^ 7) z) (cast_unsigned w8 z ∷ [])

unfoldable pub i16_bytes : ℤ → List ℕ
i16_bytes z = bytes_if (is_signed (2 ^ 15) z) (to_le_bytes w16 (cast_unsigned w16 z))

unfoldable pub i32_bytes : ℤ → List ℕ
i32_bytes z = bytes_if (is_signed (2 ^ 31) z) (to_le_bytes w32 (cast_unsigned w32 z))

unfoldable pub i64_bytes : ℤ → List ℕ
i64_bytes z = bytes_if (is_signed (2 ^ 63) z) (to_le_bytes w64 (cast_unsigned w64 z))

unfoldable pub bool_bytes : Bool → List ℕ
bool_bytes false = 0 ∷ []
bool_bytes true = 1 ∷ []

-- the bytes of an array, which are that many
unfoldable pub array_bytes : ℕ → List ℕ → List ℕ
array_bytes count bytes = bytes_if (nat_eq (length bytes) count) bytes

-- a byte that says whether there is a value, and its bytes
unfoldable pub option_bytes : {A : Type 0} → (A → List ℕ) → Option A → List ℕ
option_bytes bytes_of None = 0 ∷ []
option_bytes bytes_of (Some x) = 1 ∷ bytes_of x

-- bytes, with their number before them
unfoldable pub counted_bytes : List ℕ → List ℕ
counted_bytes bytes = u64_bytes (length bytes) ++ bytes
