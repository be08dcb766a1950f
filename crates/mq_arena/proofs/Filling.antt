-- Bytes that are written over pages of n bytes, one page after another.
use Rattle.std.proofs.Common.{◌≡◌, ℕ, ◌+◌, ◌*◌, ◌≤◌, ◌<◌, suc, inl, inr, List, [], ◌∷◌, ◌++◌, length, take, drop, set, get_or, refl, sym, ◌∙◌, ap, arith, append_assoc, length-append, length-drop}
use Rattle.std.proofs.lemmas.List.{append-nil, length-take, length-take-le, take_at, take_all, drop_all, drop-append-le, take-append-drop, drop_more, take_more_set, drop-set-lt, nil_from_length}
use Rattle.std.proofs.lemmas.Bool.{cases_lt}
use Rattle.std.proofs.lemmas.List.Elements.{All-head, All-tail, All-take}
use Rattle.std.proofs.Math.Seq.{drop-append-add, take-append-add}
use Rattle.std.proofs.lemmas.List.Folds.{concat-append}
use Rattle.std.specs.List.{concat, All, refill}
use Rattle.mq_arena.specs.Bytes.{AreWhole, over, filled}
use Rattle.mq_arena.specs.declared.page.TheConstants.{PAGE_LEN}

-- bytes that end within the page
ends_here : (n : ℕ) (page rest bytes : List ℕ) → length page ≡ n → length bytes ≤ n
    → over (take n bytes) page ++ over (drop n bytes) rest ≡ over bytes (page ++ rest)
ends_here n page rest bytes long short =
    let within : length bytes ≤ length page = omega arith in
    rw (take_all n bytes short, drop_all n bytes short, drop-append-le (length bytes) page rest within)
    (append_assoc bytes (drop (length bytes) page) rest)

-- bytes that continue past the page
goes_on : (n : ℕ) (page rest bytes : List ℕ) → length page ≡ n → n ≤ length bytes
    → over (take n bytes) page ++ over (drop n bytes) rest ≡ over bytes (page ++ rest)
goes_on n page rest bytes long enough =
    let cut : length (take n bytes) ≡ length page = omega (arith, length-take n bytes) in
    let whole : drop (length (take n bytes)) page ≡ [] = drop_all (length (take n bytes)) page (omega arith) in
    let later : length bytes ≡ length page + length (drop n bytes) = omega (arith, length-drop n bytes) in
    let past : drop (length bytes) (page ++ rest) ≡ drop (length (drop n bytes)) rest =
    ap (λ k. drop k (page ++ rest)) later ∙ drop-append-add page rest (length (drop n bytes)) in
    rw (whole, append-nil (take n bytes), past)
    (sym (append_assoc (take n bytes) (drop n bytes) (drop (length (drop n bytes)) rest))
    ∙ ap (λ bs. bs ++ drop (length (drop n bytes)) rest) (take-append-drop n bytes))

-- a product with one more
mul_one_more : (n k : ℕ) → n * suc k ≡ n * k + n
mul_one_more n k = omega arith

-- joined, the pages are the bytes and then what they were
pub concat-filled : (n : ℕ) (pages : List (List ℕ)) (bytes : List ℕ) → All (λ page. length page ≡ n) pages
    → length bytes ≤ n * length pages → concat (filled n pages bytes) ≡ over bytes (concat pages)
concat-filled n [] bytes whole fits =
    let none : bytes ≡ [] = nil_from_length bytes (omega arith) in
    rw none refl
concat-filled n (page ∷ pages) bytes whole fits =
    let long : length page ≡ n = All-head (λ p. length p ≡ n) page pages whole in
    let rest : All (λ p. length p ≡ n) pages = All-tail (λ p. length p ≡ n) page pages whole in
    let left : length (drop n bytes) ≤ n * length pages =
    omega (arith, length-drop n bytes, mul_one_more n (length pages)) in
    ap (λ bs. over (take n bytes) page ++ bs) (concat-filled n pages (drop n bytes) rest left)
    ∙ elim (cases_lt n (length bytes)) [
      | inl more ↦ goes_on n page (concat pages) bytes long (omega arith)
      | inr few ↦ ends_here n page (concat pages) bytes long few
    ]

-- joined, pages that the bytes reach the end of are the first bytes
pub concat-full : (n : ℕ) (pages : List (List ℕ)) (bytes : List ℕ) → All (λ page. length page ≡ n) pages
    → n * length pages ≤ length bytes → concat (filled n pages bytes) ≡ take (n * length pages) bytes
concat-full n [] bytes whole enough =
    let none : n * 0 ≡ 0 = omega arith in
    rw none refl
concat-full n (page ∷ pages) bytes whole enough =
    let long : length page ≡ n = All-head (λ p. length p ≡ n) page pages whole in
    let rest : All (λ p. length p ≡ n) pages = All-tail (λ p. length p ≡ n) page pages whole in
    let more : n * suc (length pages) ≡ n * length pages + n = mul_one_more n (length pages) in
    let cut : length (take n bytes) ≡ n = length-take-le n bytes (omega (arith, more, enough)) in
    let left : n * length pages ≤ length (drop n bytes) = omega (arith, length-drop n bytes, more, enough) in
    let first : over (take n bytes) page ≡ take n bytes =
    rw (drop_all (length (take n bytes)) page (omega (arith, cut, long))) (append-nil (take n bytes)) in
    let all : n * suc (length pages) ≡ length (take n bytes) + n * length pages = omega (arith, more, cut) in
    rw (first, concat-full n pages (drop n bytes) rest left)
    (sym (take-append-add (take n bytes) (drop n bytes) (n * length pages))
    ∙ ap (take (length (take n bytes) + n * length pages)) (take-append-drop n bytes) ∙ ap (λ k. take k bytes) (sym all))

-- one page on
pub filled_more : (n : ℕ) (pages : List (List ℕ)) (i : ℕ) (d : List ℕ) (rest : List ℕ) → i < length pages
    → take i pages ++ filled n (drop i pages) rest
    ≡ take (i + 1) (set pages i (over (take n rest) (get_or pages i d)))
    ++ filled n (drop (i + 1) (set pages i (over (take n rest) (get_or pages i d)))) (drop n rest)
filled_more n pages i d rest within =
    let page : List ℕ = get_or pages i d in
    let new : List ℕ = over (take n rest) page in
    rw (take_more_set pages i new within, drop-set-lt (i + 1) pages i new (omega arith), drop_more pages i d within)
    (sym (append_assoc (take i pages) (new ∷ []) (filled n (drop (i + 1) pages) (drop n rest))))

-- past the last page
pub filled_all : (n : ℕ) (pages : List (List ℕ)) (i : ℕ) (rest : List ℕ) → length pages ≤ i
    → take i pages ++ filled n (drop i pages) rest ≡ pages
filled_all n pages i rest past =
    rw (take_all i pages past, drop_all i pages past) (append-nil pages)

-- a page keeps its length
pub length-over : (bytes page : List ℕ) → length bytes ≤ length page → length (over bytes page) ≡ length page
length-over bytes page within =
    omega (arith, length-append bytes (drop (length bytes) page), length-drop (length bytes) page)

-- the bytes of that many pages
pub length-concat : (n : ℕ) (pages : List (List ℕ)) → All (λ page. length page ≡ n) pages
    → length (concat pages) ≡ n * length pages
length-concat n [] whole = omega arith
length-concat n (page ∷ pages) whole =
    let long : length page ≡ n = All-head (λ p. length p ≡ n) page pages whole in
    let rest : All (λ p. length p ≡ n) pages = All-tail (λ p. length p ≡ n) page pages whole in
    omega (arith, length-append page (concat pages), length-concat n pages rest, mul_one_more n (length pages))

-- two lists that together are as long as what they replace
pub refill_all : {X : Type 0} (old new : List X) → length new ≡ length old → refill (length old) old new ≡ new
refill_all old new same = take_at new (drop (length new) old) (length old) same

-- both halves filled, the first one to its end
pub both_filled : (old first rest : List (List ℕ)) (front back : List ℕ) (i : ℕ) → AreWhole old
    → i ≤ length old → length first ≡ i → length rest + i ≡ length old → length front ≡ PAGE_LEN * i
    → concat first ≡ over front (concat (take i old)) → concat rest ≡ over back (concat (drop i old))
    → concat (refill (length old) old (first ++ rest))
    ≡ front ++ back ++ drop (length front + length back) (concat old)
both_filled old first rest front back i whole within long long-2 full in_first in_rest =
    let same : length (first ++ rest) ≡ length old = omega (arith, length-append first rest) in
    let short : length (take i old) ≡ i = length-take-le i old within in
    let before : length (concat (take i old)) ≡ length front =
    omega (arith, length-concat PAGE_LEN (take i old) (All-take (λ p. length p ≡ PAGE_LEN) i old whole)) in
    let all : concat first ≡ front =
    in_first ∙ ap (λ bs. front ++ bs) (drop_all (length front) (concat (take i old)) (omega arith)) ∙ append-nil front in
    let joined : concat old ≡ concat (take i old) ++ concat (drop i old) =
    ap concat (sym (take-append-drop i old)) ∙ concat-append (take i old) (drop i old) in
    let past : drop (length front + length back) (concat old) ≡ drop (length back) (concat (drop i old)) =
    ap (drop (length front + length back)) joined
    ∙ ap (λ k. drop (k + length back) (concat (take i old) ++ concat (drop i old))) (sym before)
    ∙ drop-append-add (concat (take i old)) (concat (drop i old)) (length back) in
    ap concat (refill_all old (first ++ rest) same) ∙ concat-append first rest
    ∙ rw (all, in_rest, past) (sym (append_assoc front back (drop (length back) (concat (drop i old)))))
