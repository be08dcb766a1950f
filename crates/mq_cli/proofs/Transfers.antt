use Rattle.std.proofs.Common.{◌≡◌, ℕ, ◌+◌, ◌-◌, ◌≤◌, List, ◌++◌, length, take, drop, arith, append_assoc, take-append-drop}
use Rattle.std.proofs.lemmas.Grind.{common_steps}

rest_whole : (n : ℕ) (xs : List ℕ) → take (length xs - n) (drop n xs) ≡ drop n xs
rest_whole n xs = grind (arith, common_steps)

-- the prefix grows by n more bytes of the rest
pub prefix_grown : (bytes front rest : List ℕ) (n : ℕ) → bytes ≡ front ++ rest
    → bytes ≡ (front ++ take n rest) ++ take (length rest - n) (drop n rest)
prefix_grown bytes front rest n e =
    rw (rest_whole n rest, append_assoc, take-append-drop n rest) e

pub length_read : (script chunk : List ℕ) (n : ℕ) → n ≤ length chunk → length (script ++ take n chunk) ≡ length script + n
length_read script chunk n fits = grind (arith, common_steps)
