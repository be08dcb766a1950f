-- The numbers that words spell.
use Rattle.std.specs.Prelude.{ℕ, ℤ, pos, negsuc, ◌-◌, ◌^◌, ◌==◌, nat_lt, nat_le, ◌&&◌}
use Rattle.std.specs.Prelude.{if◌then◌else◌, Bool, List, drop, slice_index_or, Option, Some, None}
use Rattle.std.specs.Prelude.{option_and_then}
use Rattle.std.specs.Option.{option_map}
use Rattle.std.specs.Fmt.{decimal}
use Rattle.std.specs.Str.Parse.{digits_value}
use Rattle.std.specs.Str.{bytes_eq}

-- the number below 2 ^ 64 that a word spells: just as `decimal` writes it, so there is one spelling
unfoldable pub number_of : List ℕ → Option ℕ
number_of word =
    let n = digits_value 10 word in
    if nat_lt n (2 ^ 64) && bytes_eq word (decimal n) then Some n else None

-- a number below the limit
abbrev pub under : ℕ → Option ℕ → Option ℕ
under limit number = option_and_then (λ n. if nat_lt n limit then Some n else None) number

-- a number from 1 on
abbrev pub above_zero : Option ℕ → Option ℕ
above_zero number = option_and_then (λ n. if nat_lt 0 n then Some n else None) number

-- the number -n of an i64, which -0 is not
abbrev pub below_zero : ℕ → Option ℤ
below_zero n = if nat_le 1 n && nat_le n (2 ^ 63) then Some (negsuc (n - 1)) else None

-- the i64 that a word spells: a number, or one with `-` before it
unfoldable pub integer_of : List ℕ → Option ℤ
integer_of word =
    if slice_index_or word 0 0 == 45
    then option_and_then below_zero (number_of (drop 1 word))
    else option_map pos (under (2 ^ 63) (number_of word))

-- whether a number is an i32
abbrev pub is_key : ℤ → Bool
is_key (pos n) = nat_lt n (2 ^ 31)
is_key (negsuc n) = nat_lt n (2 ^ 31)

-- the i32 that a word spells
abbrev pub key_of : List ℕ → Option ℤ
key_of word = option_and_then (λ z. if is_key z then Some z else None) (integer_of word)
