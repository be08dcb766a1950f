use Rattle.std.proofs.Common.{◌≡◌, ◌==◌, ℕ, ◌+◌, ◌≤◌, Bool, true, false, ◌&&◌, List, [], ◌∷◌, fold, length, refl, arith}
use Rattle.std.specs.List.{list_all}
use Rattle.std.proofs.lemmas.List.{length-map}
use Rattle.std.proofs.lemmas.List.Sums.{count_by-le-length}
use Rattle.std.proofs.lemmas.List.Splits.{length-slice_split}
use Rattle.mq_cli.specs.Lines.{is_printable, lines_of, parts_of, without_return}

-- a script has no more lines than bytes, and one
pub length-lines_of-le : (script : List ℕ) → length (lines_of script) ≤ length script + 1
length-lines_of-le script =
    omega (arith, length-map (parts_of 10 script) without_return, length-slice_split (λ b. b == 10) script, count_by-le-length (λ b. b == 10) script)

kept_false : (p : ℕ → Bool) (xs : List ℕ) → fold (λ all x. all && p x) false xs ≡ false
kept_false p [] = refl
kept_false p (x ∷ xs) = kept_false p xs

all_from : (p : ℕ → Bool) (b : Bool) (xs : List ℕ) → fold (λ all x. all && p x) b xs ≡ (b && list_all p xs)
all_from p true [] = refl
all_from p false xs = kept_false p xs
all_from p true (x ∷ xs) = all_from p (p x) xs

-- a line that is read to its end, whatever stands in it, is as printable as one that is not
pub printable_to_the_end : (line : List ℕ) → fold (λ all b. all && is_printable b) true line ≡ list_all is_printable line
printable_to_the_end line = all_from is_printable true line
