-- Bytes that are written over pages of n bytes, with zeros behind them.
use Rattle.std.proofs.Common.{◌≡◌, ℕ, ◌+◌, ◌-◌, ◌*◌, ◌≤◌, ◌<◌, zero, suc, List, [], ◌∷◌, ◌++◌, length, take, drop, set, replicate, refl, sym, ◌∙◌, ap, arith, append_assoc}
use Rattle.std.proofs.lemmas.List.{append-nil, take_all, length-replicate, drop-replicate, replicate-append-replicate, take_more_set}
use Rattle.std.proofs.Math.Seq.{drop-nil, take-nil}
use Rattle.std.proofs.lemmas.List.Elements.{All-replicate}
use Rattle.std.specs.List.{concat}
use Rattle.mq_arena.specs.Bytes.{over, filled, pages_with}
use Rattle.mq_arena.specs.declared.page.TheConstants.{PAGE_LEN}
use Rattle.mq_arena.proofs.Filling.{concat-filled, concat-full}

-- the bytes of pages that are all zero
pub concat-replicate : (n k : ℕ) → concat (replicate k (replicate n 0)) ≡ replicate (n * k) 0
concat-replicate n zero = let none : 0 ≡ n * 0 = omega arith in ap (λ m. replicate m 0) none
concat-replicate n (suc k) =
    let one : n + n * k ≡ n * suc k = omega arith in
    ap (λ bs. replicate n 0 ++ bs) (concat-replicate n k) ∙ replicate-append-replicate n (n * k) 0
    ∙ ap (λ m. replicate m 0) one

-- a page of zeros with these bytes over its first ones
pub over_zeros : (n : ℕ) (bytes : List ℕ) → over bytes (replicate n 0) ≡ bytes ++ replicate (n - length bytes) 0
over_zeros n bytes = ap (λ bs. bytes ++ bs) (drop-replicate (length bytes) n 0)

-- no bytes change nothing
filled_no_bytes : (n : ℕ) (pages : List (List ℕ)) → filled n pages [] ≡ pages
filled_no_bytes n [] = refl
filled_no_bytes n (page ∷ pages) =
    let none : List ℕ = [] in
    let first : over (take n none) page ≡ page = ap (λ bs. over bs page) (take-nil n) in
    let later : filled n pages (drop n none) ≡ pages = ap (filled n pages) (drop-nil n) ∙ filled_no_bytes n pages in
    rw (first, later) refl

-- pages with no bytes are zero
pub no_bytes : (count : ℕ) → pages_with count [] ≡ replicate count (replicate PAGE_LEN 0)
no_bytes count = filled_no_bytes PAGE_LEN (replicate count (replicate PAGE_LEN 0))

-- one page on
pub overwritten_more : (n : ℕ) (pages : List (List ℕ)) (i : ℕ) (rest : List ℕ) → i < length pages
    → take i pages ++ filled n (replicate (length pages - i) (replicate n 0)) rest
    ≡ take (i + 1) (set pages i (over (take n rest) (replicate n 0)))
    ++ filled n (replicate (length pages - (i + 1)) (replicate n 0)) (drop n rest)
overwritten_more n pages i rest within =
    let blank : List ℕ = replicate n 0 in
    let later : List (List ℕ) = filled n (replicate (length pages - (i + 1)) blank) (drop n rest) in
    let one : length pages - i ≡ suc (length pages - (i + 1)) = omega arith in
    ap (λ k. take i pages ++ filled n (replicate k blank) rest) one
    ∙ sym (append_assoc (take i pages) (over (take n rest) blank ∷ []) later)
    ∙ ap (λ ps. ps ++ later) (sym (take_more_set pages i (over (take n rest) blank) within))

-- past the last page
pub overwritten_all : (n : ℕ) (pages : List (List ℕ)) (i : ℕ) (rest : List ℕ) → length pages ≤ i
    → take i pages ++ filled n (replicate (length pages - i) (replicate n 0)) rest ≡ pages
overwritten_all n pages i rest past =
    let none : length pages - i ≡ 0 = omega arith in
    ap (λ k. take i pages ++ filled n (replicate k (replicate n 0)) rest) none
    ∙ append-nil (take i pages) ∙ take_all i pages past

-- joined, the pages are the bytes and zeros behind them
pub concat_bytes : (count : ℕ) (bytes : List ℕ) → length bytes ≤ PAGE_LEN * count
    → concat (pages_with count bytes) ≡ bytes ++ replicate (PAGE_LEN * count - length bytes) 0
concat_bytes count bytes fits =
    let blank : List ℕ = replicate PAGE_LEN 0 in
    let long : length (replicate count blank) ≡ count = length-replicate count blank in
    concat-filled PAGE_LEN (replicate count blank) bytes
    (All-replicate (λ page. length page ≡ PAGE_LEN) count blank (length-replicate {A = ℕ} PAGE_LEN 0))
    (omega (arith, long, ap (λ k. PAGE_LEN * k) long))
    ∙ ap (over bytes) (concat-replicate PAGE_LEN count) ∙ over_zeros (PAGE_LEN * count) bytes

-- joined, pages that the bytes fill are as many of the bytes as fit
pub concat_first : (count : ℕ) (bytes : List ℕ) → PAGE_LEN * count ≤ length bytes
    → concat (pages_with count bytes) ≡ take (PAGE_LEN * count) bytes
concat_first count bytes enough =
    let blank : List ℕ = replicate PAGE_LEN 0 in
    let long : length (replicate count blank) ≡ count = length-replicate count blank in
    concat-full PAGE_LEN (replicate count blank) bytes
    (All-replicate (λ page. length page ≡ PAGE_LEN) count blank (length-replicate {A = ℕ} PAGE_LEN 0))
    (omega (arith, long, ap (λ k. PAGE_LEN * k) long, enough))
    ∙ ap (λ k. take (PAGE_LEN * k) bytes) long

-- what pages hold once bytes are written over them: none, as many as fit, or more
pub ruleset written = (no_bytes, concat_bytes, concat_first)
