-- Pages of n bytes, of which the first k bytes stay and the others are cleared.
use Rattle.std.proofs.Common.{◌≡◌, ℕ, ◌+◌, ◌-◌, ◌*◌, ◌≤◌, ◌<◌, suc, inl, inr, List, [], ◌∷◌, ◌++◌, length, take, drop, set, get_or, min, replicate, refl, sym, ◌∙◌, ap, arith, append_assoc, length-append}
use Rattle.std.proofs.lemmas.List.{append-nil, length-take, length-replicate, replicate-append-replicate, take_all, take_min, take-append-le, drop_all, drop_more, take_more_set, drop-set-lt}
use Rattle.std.proofs.lemmas.Bool.{cases_lt}
use Rattle.std.proofs.lemmas.List.Elements.{All-head, All-tail}
use Rattle.std.proofs.Math.Seq.{take-append-add, take-nil}
use Rattle.std.specs.List.{concat, All}

-- a page whose first k bytes stay
abbrev pub kept_front : ℕ → ℕ → List ℕ → List ℕ
kept_front n k page = take k page ++ replicate (n - k) 0

-- pages whose first k bytes stay
abbrev pub cleared : ℕ → ℕ → List (List ℕ) → List (List ℕ)
cleared n k [] = []
cleared n k (page ∷ pages) = kept_front n k page ∷ cleared n (k - n) pages

-- a page is cleared behind as many of its bytes as stay
pub front_kept : (n k : ℕ) (page : List ℕ) → length page ≡ n
    → take (min n k) page ++ replicate (length page - min n k) 0 ≡ kept_front n k page
front_kept n k page long =
    let same : min n k ≡ min k (length page) = omega arith in
    let left : length page - min n k ≡ n - k = omega arith in
    ap (λ j. take j page ++ replicate (length page - min n k) 0) same
    ∙ ap (λ bs. bs ++ replicate (length page - min n k) 0) (take_min k page)
    ∙ ap (λ j. take k page ++ replicate j 0) left

-- it keeps its length
pub length-kept_front : (n k : ℕ) (page : List ℕ) → length page ≡ n → length (kept_front n k page) ≡ n
length-kept_front n k page long =
    omega (arith, length-append (take k page) (replicate (n - k) 0), length-take k page, length-replicate {A = ℕ} (n - k) 0)

-- one page on
pub cleared_more : (n k : ℕ) (pages : List (List ℕ)) (i : ℕ) (d : List ℕ) → i < length pages
    → take i pages ++ cleared n k (drop i pages)
    ≡ take (i + 1) (set pages i (kept_front n k (get_or pages i d)))
    ++ cleared n (k - n) (drop (i + 1) (set pages i (kept_front n k (get_or pages i d))))
cleared_more n k pages i d within =
    let new : List ℕ = kept_front n k (get_or pages i d) in
    rw (take_more_set pages i new within, drop-set-lt (i + 1) pages i new (omega arith), drop_more pages i d within)
    (sym (append_assoc (take i pages) (new ∷ []) (cleared n (k - n) (drop (i + 1) pages))))

-- past the last page
pub cleared_all : (n k : ℕ) (pages : List (List ℕ)) (i : ℕ) → length pages ≤ i
    → take i pages ++ cleared n k (drop i pages) ≡ pages
cleared_all n k pages i past =
    rw (take_all i pages past, drop_all i pages past) (append-nil pages)

-- a product with one more
mul_one_more : (n k : ℕ) → n * suc k ≡ n * k + n
mul_one_more n k = omega arith

-- bytes that end within the page
ends_here : (n k m : ℕ) (page rest : List ℕ) → length page ≡ n → k ≤ n
    → kept_front n k page ++ (take (k - n) rest ++ replicate (n * m - (k - n)) 0)
    ≡ take k (page ++ rest) ++ replicate (n * suc m - k) 0
ends_here n k m page rest long few =
    let none : k - n ≡ 0 = omega arith in
    let after : n * m - 0 ≡ n * m = omega arith in
    let zeros : List ℕ = replicate (n - k) 0 in
    let all : n - k + n * m ≡ n * suc m - k = omega (arith, mul_one_more n m) in
    ap (λ j. kept_front n k page ++ (take j rest ++ replicate (n * m - j) 0)) none
    ∙ ap (λ j. kept_front n k page ++ replicate j 0) after
    ∙ append_assoc (take k page) zeros (replicate (n * m) 0)
    ∙ ap (λ bs. take k page ++ bs) (replicate-append-replicate (n - k) (n * m) 0)
    ∙ ap (λ j. take k page ++ replicate j 0) all
    ∙ ap (λ bs. bs ++ replicate (n * suc m - k) 0) (sym (take-append-le k page rest (omega arith)))

-- bytes that continue past the page
goes_on : (n k m : ℕ) (page rest : List ℕ) → length page ≡ n → n ≤ k
    → kept_front n k page ++ (take (k - n) rest ++ replicate (n * m - (k - n)) 0)
    ≡ take k (page ++ rest) ++ replicate (n * suc m - k) 0
goes_on n k m page rest long enough =
    let none : n - k ≡ 0 = omega arith in
    let zeros : List ℕ = replicate (n * m - (k - n)) 0 in
    let left : n * m - (k - n) ≡ n * suc m - k = omega (arith, mul_one_more n m) in
    let whole : kept_front n k page ≡ page =
    ap (λ j. take k page ++ replicate j 0) none ∙ append-nil (take k page) ∙ take_all k page (omega arith) in
    let at : k ≡ length page + (k - n) = omega arith in
    let both : take k (page ++ rest) ≡ page ++ take (k - n) rest =
    ap (λ j. take j (page ++ rest)) at ∙ take-append-add page rest (k - n) in
    ap (λ bs. bs ++ (take (k - n) rest ++ zeros)) whole ∙ sym (append_assoc page (take (k - n) rest) zeros)
    ∙ ap (λ bs. bs ++ zeros) (sym both) ∙ ap (λ j. take k (page ++ rest) ++ replicate j 0) left

-- joined, the pages are their first bytes, and zeros behind them
pub concat-cleared : (n k : ℕ) (pages : List (List ℕ)) → All (λ page. length page ≡ n) pages
    → concat (cleared n k pages) ≡ take k (concat pages) ++ replicate (n * length pages - k) 0
concat-cleared n k [] whole =
    let none : n * 0 - k ≡ 0 = omega arith in
    rw (none, take-nil {A = ℕ} k) refl
concat-cleared n k (page ∷ pages) whole =
    let long : length page ≡ n = All-head (λ p. length p ≡ n) page pages whole in
    let rest : All (λ p. length p ≡ n) pages = All-tail (λ p. length p ≡ n) page pages whole in
    ap (λ bs. kept_front n k page ++ bs) (concat-cleared n (k - n) pages rest)
    ∙ elim (cases_lt n k) [
      | inl more ↦ goes_on n k (length pages) page (concat pages) long (omega arith)
      | inr few ↦ ends_here n k (length pages) page (concat pages) long few
    ]
