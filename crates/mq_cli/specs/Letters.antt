-- What the workers of a threads script pledge of their texts.
use Rattle.std.specs.Prelude.{◌≡◌, ℕ, ◌+◌, ℤ, List, length, map}
use Rattle.std.specs.List.{range_with_len}
use Rattle.mq_cli.specs.Drafts.{letter}

-- the letters from this place on
abbrev pub letters_from : ℕ → ℕ → List ℕ
letters_from start count = map (λ i. letter (start + i)) (range_with_len 0 count)

-- byte i of a text is the letter at seat + tag + i
abbrev pub AreLetters : ℕ → ℕ → ℤ → List ℕ → Type 0
AreLetters seat tag mtype bytes = bytes ≡ letters_from (seat + tag) (length bytes)
