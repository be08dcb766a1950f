-- The lines of a script without its cuts, and what each line writes by itself.
use Rattle.std.specs.Prelude.{ℕ, ◌+◌, Bool, true, false, if◌then◌else◌, List, [], ◌∷◌, map, codes}
use Rattle.std.specs.Prelude.{Option, Some, Result, Ok, Err}
use Rattle.mq_cli.specs.declared.fault.Cause.{Cause}
use Rattle.mq_cli.specs.Commands.{AskedCall, cut, reading}
use Rattle.mq_cli.specs.Session.{SessionState}
use Rattle.mq_cli.specs.Transcript.{said}

abbrev pub is_cut : AskedCall → Bool
is_cut (cut slot) = true
is_cut _ = false

-- whether what was read is a cut
abbrev pub asks_cut : Result (Option AskedCall) Cause → Bool
asks_cut (Ok (Some call)) = is_cut call
asks_cut _ = false

-- the lines with a comment in the place of each cut
abbrev pub without_cuts : List (List ℕ) → List (List ℕ)
without_cuts lines = map (λ line. if asks_cut (reading line) then codes "#" else line) lines

-- what one line writes, and what those after it do, unless it is not well formed
abbrev pub then_others : Result (List ℕ × SessionState) Cause → (SessionState → List (List ℕ))
    → List (List ℕ)
then_others (Ok turn) rest = turn.0 ∷ rest turn.1
then_others (Err cause) rest = []

-- what each line from line n on writes, up to the first that is not well formed
unfoldable pub texts_from : ℕ → SessionState → List (List ℕ) → List (List ℕ)
texts_from n s [] = []
texts_from n s (line ∷ lines) =
    then_others (said n s (reading line)) (λ t. texts_from (n + 1) t lines)

-- the first of these, or nothing where its line is a cut, and then those after it
abbrev pub unless_cut : Bool → (List (List ℕ) → List (List ℕ)) → List (List ℕ) → List (List ℕ)
unless_cut is_cut rest [] = []
unless_cut is_cut rest (text ∷ texts) = (if is_cut then [] else text) ∷ rest texts

-- what each line writes that is no cut, with nothing in the place of what a cut writes
abbrev pub texts_of_others : List (List ℕ) → List (List ℕ) → List (List ℕ)
texts_of_others [] texts = []
texts_of_others (line ∷ lines) texts =
    unless_cut (asks_cut (reading line)) (texts_of_others lines) texts
