use Rattle.std.proofs.Common.{◌≡◌, ℕ, ◌-◌, List, [], ◌++◌, Option, length, take, drop, refl, sym, ap, ◌∙◌, arith, append_assoc, take-append-drop}
use Rattle.std.specs.Io.KnownBytes.{Appends}
use Rattle.std.proofs.KnownBytes.{Appends-nil, Appends-trans}
use Rattle.std.proofs.lemmas.Grind.{common_steps}
use Rattle.mq_trace.specs.Written.{AppendsPrefix}

rest_whole : (n : ℕ) (xs : List ℕ) → take (length xs - n) (drop n xs) ≡ drop n xs
rest_whole n xs = grind (arith, common_steps)

-- the prefix grows by n more bytes of the rest
pub prefix_grown : (bytes front rest : List ℕ) (n : ℕ) → bytes ≡ front ++ rest
    → bytes ≡ (front ++ take n rest) ++ take (length rest - n) (drop n rest)
prefix_grown bytes front rest n e = rw (rest_whole n rest, append_assoc, take-append-drop n rest) e

-- before anything is written a prefix is
pub nothing_yet : (now : Option (List ℕ)) (text : List ℕ) → AppendsPrefix now now text
nothing_yet now text = ([], (text, refl), Appends-nil now)

-- what is behind a text that was written is the end of a prefix
pub prefix_behind : (old mid new : Option (List ℕ)) (text more : List ℕ) → Appends old mid text → AppendsPrefix mid new more → AppendsPrefix old new (text ++ more)
prefix_behind old mid new text more taken part = (
  text ++ part.0,
  (part.1.0, ap (λ l. text ++ l) part.1.1 ∙ sym (append_assoc text part.0 part.1.0)),
  Appends-trans old mid new text part.0 taken part.2,
)

-- a prefix of a text is one of all that begins with the text
pub prefix_more : (old new : Option (List ℕ)) (text more : List ℕ) → AppendsPrefix old new text → AppendsPrefix old new (text ++ more)
prefix_more old new text more part =
    (part.0, (part.1.0 ++ more, ap (λ l. l ++ more) part.1.1 ∙ append_assoc part.0 part.1.0 more), part.2)
