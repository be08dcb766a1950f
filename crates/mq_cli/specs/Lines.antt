-- The lines of a script, and the words of a line.
use Rattle.std.specs.Prelude.{ℕ, Bool, ◌-◌, ◌==◌, nat_le, ◌&&◌, if◌then◌else◌, List, length, map}
use Rattle.std.specs.Prelude.{take, slice_index_or}
use Rattle.std.specs.List.{slice_split, join_with_byte}

-- the parts of a text round a separator: one word for lines and for words
abbrev pub parts_of : ℕ → List ℕ → List (List ℕ)
parts_of separator text = slice_split (λ b. b == separator) text

-- a line without the CR that may end it, and no more than one
abbrev pub without_return : List ℕ → List ℕ
without_return line =
    if slice_index_or line (length line - 1) 0 == 13 then take (length line - 1) line else line

-- the lines of a script, which LF ends; what follows the last LF is a line too, where it is empty
-- one that says nothing
abbrev pub lines_of : List ℕ → List (List ℕ)
lines_of script = map without_return (parts_of 10 script)

-- the words of a line, with one space between each two
abbrev pub words_of : List ℕ → List (List ℕ)
words_of line = parts_of 32 line

-- words in a line, with one space between each two
abbrev pub line_of : List (List ℕ) → List ℕ
line_of words = join_with_byte 32 words

-- a byte from the space to the tilde
abbrev pub is_printable : ℕ → Bool
is_printable b = nat_le 32 b && nat_le b 126
