-- The parts of pages, of which the last one is truncated.
use Rattle.std.proofs.Common.{◌≡◌, nat_eq, false, List, ℕ, ◌+◌, ◌-◌, ◌*◌, ◌<◌, [], ◌∷◌, ◌++◌, length, take, refl, ap, sym, ◌∙◌, inl, inr, arith}
use Rattle.std.proofs.lemmas.Bool.{cases_lt}
use Rattle.std.proofs.lemmas.List.{take_all, take-append-le, append-nil}
use Rattle.std.proofs.lemmas.List.Elements.{All-head, All-tail}
use Rattle.std.proofs.lemmas.Bool.Decides.{nat_tests}
use Rattle.std.proofs.Math.Seq.{take-append-add, take-nil}
use Rattle.std.specs.List.{concat}
use Rattle.mq_arena.specs.Bytes.{AreWhole, cut_parts}
use Rattle.mq_arena.specs.declared.page.TheConstants.{PAGE_LEN}

-- no byte has no part
pub cut_none : (pages : List (List ℕ)) → cut_parts 0 pages ≡ []
cut_none [] = refl
cut_none (page ∷ pages) = refl

-- the first bytes of two lists
take_both : (n : ℕ) (xs ys : List ℕ) → take n (xs ++ ys) ≡ take n xs ++ take (n - length xs) ys
take_both n xs ys = elim (cases_lt n (length xs)) [
  | inl fewer ↦
      let none : n - length xs ≡ 0 = omega arith in
      rw (none, take-append-le n xs ys (omega arith)) (sym (append-nil (take n xs)))
  | inr more ↦
      let at : n ≡ length xs + (n - length xs) = omega arith in
      rw (take_all n xs more) (ap (λ k. take k (xs ++ ys)) at ∙ take-append-add xs ys (n - length xs))
]

-- a byte at least is left, and its page
pub cut_some : (len : ℕ) (page : List ℕ) (pages : List (List ℕ)) → 0 < len
    → cut_parts len (page ∷ pages) ≡ take len page ∷ cut_parts (len - PAGE_LEN) pages
cut_some len page pages some =
    let no : nat_eq len 0 ≡ false = grind (arith, nat_tests) in
    rw no refl

-- the parts are the first bytes of the pages
pub concat_cut_parts : (len : ℕ) (pages : List (List ℕ)) → AreWhole pages
    → concat (cut_parts len pages) ≡ take len (concat pages)
concat_cut_parts len [] whole = sym (take-nil len)
concat_cut_parts len (page ∷ pages) whole =
    let long : length page ≡ PAGE_LEN = All-head (λ p. length p ≡ PAGE_LEN) page pages whole in
    let rest : AreWhole pages = All-tail (λ p. length p ≡ PAGE_LEN) page pages whole in
    let later : concat (cut_parts (len - PAGE_LEN) pages) ≡ take (len - length page) (concat pages) =
    concat_cut_parts (len - PAGE_LEN) pages rest ∙ ap (λ k. take (len - k) (concat pages)) (sym long) in
    elim (cases_lt 0 len) [
      | inl some ↦
          ap concat (cut_some len page pages some) ∙ ap (λ bs. take len page ++ bs) later
          ∙ sym (take_both len page (concat pages))
      | inr none ↦
          let zero_len : len ≡ 0 = omega arith in
          rw zero_len refl
    ]

-- truncated at their end, they are whole
pub cut_whole : (len : ℕ) (pages : List (List ℕ)) → AreWhole pages → len ≡ PAGE_LEN * length pages
    → cut_parts len pages ≡ pages
cut_whole len [] whole all = refl
cut_whole len (page ∷ pages) whole all =
    let long : length page ≡ PAGE_LEN = All-head (λ p. length p ≡ PAGE_LEN) page pages whole in
    let rest : AreWhole pages = All-tail (λ p. length p ≡ PAGE_LEN) page pages whole in
    let later : cut_parts (len - PAGE_LEN) pages ≡ pages = cut_whole (len - PAGE_LEN) pages rest (omega arith) in
    cut_some len page pages (omega arith) ∙ rw (later, take_all len page (omega arith)) refl
