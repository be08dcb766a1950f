-- What an iterator over lines or words has still to yield.
use Rattle.std.specs.Prelude.{ℕ, List, [], Option, map}
use Rattle.std.specs.Option.{option_map_or}
use Rattle.std.specs.Borrow.{Bor}
use Rattle.mq_cli.specs.Lines.{parts_of, without_return}

-- the parts of a text that is there
abbrev pub parts_left : ℕ → Option (Bor (List ℕ)) → List (List ℕ)
parts_left separator rest = option_map_or (λ text. parts_of separator text.now) rest []

-- the same as lines without their ends
abbrev pub lines_left : Option (Bor (List ℕ)) → List (List ℕ)
lines_left rest = map without_return (parts_left 10 rest)
