use Rattle.std.proofs.Common.{◌≡◌, ℕ, ◌+◌, ◌-◌, ◌*◌, ◌^◌, ◌<◌, ◌≤◌, Bool, true, false, not, List, length, take, take_all, get_or, Option, Some, None, refl, ap, ◌∙◌, arith, zero, suc, ◌==◌, ◌&&◌, nat_lt, inl, inr, lit<, lit≤}
use Rattle.std.specs.Int.{IsInRange}
use Rattle.std.specs.List.{slice_index}
use Rattle.std.specs.Fmt.{decimal}
use Rattle.std.specs.Str.Parse.{AllDigits, digits_value}
use Rattle.std.proofs.lemmas.Bool.{and_from, and_parts, cond-true, lt-ltb, ltb-true, ltb-false, eqb-false, eqb-true, and_cases, not-true, not-false}
use Rattle.std.proofs.lemmas.Fmt.{decimal-digits_value, decimal_digit, decimal_nonempty, digits_decimal, digits_value-decimal, first_decimal}
use Rattle.std.proofs.lemmas.Option.{cond_some}
use Rattle.std.proofs.lemmas.Slice.Eq.{bytes_eq-Decides}
use Rattle.std.proofs.lemmas.Int.Digits.{digits_value_more}
use Rattle.std.proofs.lemmas.Str.{digit_value_digit}
use Rattle.std.proofs.lemmas.Str.Parse.{IsNumeralModel, digit_at, digits_value-take-le, numerals_by_value, tells_by_index, tells_digits}
use Rattle.mq_cli.specs.Numbers.{number_of}

-- a byte, and not a zero before more
abbrev pub has_first_digit : List ℕ → Bool
has_first_digit word = nat_lt 0 (length word) && not ((slice_index word 0 == 48) && nat_lt 1 (length word))

-- the digits and their value, in std's words
pub numerals : IsNumeralModel (AllDigits 10) (digits_value 10)
numerals = numerals_by_value _ tells_digits

-- a number is read from its spelling
pub number_of-decimal : (n : ℕ) → n < 2 ^ 64 → number_of (decimal n) ≡ Some n
unfolding number_of
number_of-decimal n fits =
    rw (digits_value-decimal numerals n fits) (cond-true _ _ _ (and_from _ _ (lt-ltb n (2 ^ 64) fits) ((bytes_eq-Decides (decimal n) (decimal n)).1 refl)))

-- and from nothing else
pub number_of-Some : (word : List ℕ) (n : ℕ) → number_of word ≡ Some n → (word ≡ decimal n) × (n < 2 ^ 64)
unfolding number_of
number_of-Some word n e =
    let found = cond_some _ _ _ e in
    let tests = and_parts _ _ found.0 in
    (rw (← found.1) ((bytes_eq-Decides word _).0 tests.1), rw (← found.1) (ltb-true _ _ tests.0))

-- an option without a value
no_value : (o : Option ℕ) → ((n : ℕ) → o ≡ Some n → ⊥) → None ≡ o
no_value None none = refl
no_value (Some n) none = absurd (none n refl)

-- nothing is read from what spells no number
number_of-None : (word : List ℕ) → ((n : ℕ) → n < 2 ^ 64 → word ≡ decimal n → ⊥) → None ≡ number_of word
number_of-None word none = no_value _ (λ n e. let is = number_of-Some word n e in none n is.1 is.0)

-- only the spelling of 0 begins with a zero
begins_with_zero : (n : ℕ) → n < 2 ^ 64 → get_or (decimal n) 0 0 ≡ 48 → length (decimal n) ≡ 1
begins_with_zero zero fits e = ap length (decimal_digit 0 (lit< tt))
begins_with_zero (suc n) fits e = let above = first_decimal (suc n) (omega arith) fits in absurd (omega arith)

-- no number is spelled with no digit, or with a zero before more
pub no_first_digit : (word : List ℕ) → has_first_digit word ≡ false → None ≡ number_of word
no_first_digit word none = number_of-None word (λ n fits is.
    let none_there : has_first_digit (decimal n) ≡ false = rw (← is) none in
    elim (and_cases _ _ none_there) [
      | inl empty ↦
          let filled = decimal_nonempty n fits in
          let few = ltb-false 0 (length (decimal n)) empty in
          omega arith
      | inr zeros ↦
          let both = and_parts _ _ (not-false _ zeros) in
          let one = begins_with_zero n fits (eqb-true _ _ both.0) in
          let more = ltb-true _ _ both.1 in
          omega arith
    ])

-- one more digit
pub one_digit_more : (word : List ℕ) (i value longer : ℕ) → i < length word → value ≡ digits_value 10 (take i word) → IsInRange 48 57 (get_or word i 0)
    → longer ≡ value * 10 + (get_or word i 0 - 48) → longer ≡ digits_value 10 (take (i + 1) word)
one_digit_more word i value longer within so_far range one =
    let more = digits_value_more 10 word i within in
    let digit = digit_value_digit (get_or word i 0) range in
    omega arith

-- a byte that is no digit, or makes the number too great, ends it: no number is spelled so
pub no_more_digits : (word : List ℕ) (i value : ℕ) → i < length word → value ≡ digits_value 10 (take i word)
    → (IsInRange 48 57 (get_or word i 0) → 2 ^ 64 ≤ value * 10 + (get_or word i 0 - 48)) → None ≡ number_of word
no_more_digits word i value within so_far none = number_of-None word (λ n fits is.
    let range : IsInRange 48 57 (get_or word i 0) = rw is (digit_at (decimal n) i (digits_decimal numerals n fits) (rw is at within)) in
    let longer = one_digit_more word i value _ within so_far range refl in
    let whole : digits_value 10 word ≡ n = rw is (digits_value-decimal numerals n fits) in
    let part = digits_value-take-le 10 word (i + 1) (lit≤ tt) in
    let large = none range in
    omega arith)

-- a zero stands alone
alone : (word : List ℕ) → has_first_digit word ≡ true → get_or word 0 0 ≡ 48 → length word ≡ 1
alone word first begins =
    let parts = and_parts (nat_lt 0 (length word)) _ first in
    let some : 0 < length word = ltb-true _ _ parts.0 in
    elim (and_cases (slice_index word 0 == 48) (nat_lt 1 (length word)) (not-true _ parts.1)) [
      | inl other ↦ absurd (eqb-false _ _ other begins)
      | inr short ↦ let few : length word ≤ 1 = ltb-false 1 (length word) short in omega arith
    ]

-- digits with no needless zero before them spell their value
pub all_digits : (word : List ℕ) (i value : ℕ) → has_first_digit word ≡ true → length word ≤ i → ((k : ℕ) → k < i → IsInRange 48 57 (get_or word k 0))
    → value ≡ digits_value 10 (take i word) → value < 2 ^ 64 → Some value ≡ number_of word
all_digits word i value first end each so_far fits =
    let digits = (numerals_by_value _ tells_by_index).to word (λ k within. each k (omega arith)) in
    let whole : value ≡ digits_value 10 word = so_far ∙ ap (digits_value 10) (take_all i word end) in
    let small : digits_value 10 word < 2 ^ 64 = omega arith in
    let spelled = decimal-digits_value numerals word digits (ltb-true _ _ (and_parts _ _ first).0) (alone word first) small in
    cc (number_of-decimal (digits_value 10 word) small, spelled, whole)
