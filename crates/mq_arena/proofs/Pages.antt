-- A page among the bytes of all pages.
use Rattle.std.proofs.Common.{◌≡◌, ℕ, ◌+◌, ◌-◌, ◌*◌, ◌≤◌, ◌<◌, suc, List, [], ◌∷◌, ◌++◌, length, take, drop, set, get_or, sym, ◌∙◌, ap, arith, append_assoc, length-append, add-one}
use Rattle.std.proofs.lemmas.List.{take-append-drop, drop_more, drop_at, take_at, set_split, drop-drop, drop-append-le, take-take, drop-take, length-take-le}
use Rattle.std.proofs.lemmas.List.Elements.{All-take, All-get_or}
use Rattle.std.proofs.lemmas.List.Folds.{concat-append}
use Rattle.std.proofs.Math.Seq.{take-append-add}
use Rattle.std.specs.List.{concat}
use Rattle.mq_arena.specs.Bytes.{AreWhole}
use Rattle.mq_arena.specs.declared.page.TheConstants.{PAGE_LEN}
use Rattle.mq_arena.proofs.Filling.{length-concat}

-- the bytes before page i
pub length-before : (pages : List (List ℕ)) (i : ℕ) → AreWhole pages → i ≤ length pages
    → length (concat (take i pages)) ≡ PAGE_LEN * i
length-before pages i whole within =
    let short : length (take i pages) ≡ i = length-take-le i pages within in
    omega (arith, length-concat PAGE_LEN (take i pages) (All-take (λ p. length p ≡ PAGE_LEN) i pages whole))

-- the bytes before page i, that page, and those after it
pub concat_at : (pages : List (List ℕ)) (i : ℕ) → i < length pages
    → concat pages ≡ concat (take i pages) ++ (get_or pages i [] ++ concat (drop (i + 1) pages))
concat_at pages i within =
    ap concat (sym (take-append-drop i pages) ∙ ap (λ ps. take i pages ++ ps) (drop_more pages i [] within))
    ∙ concat-append (take i pages) (get_or pages i [] ∷ drop (i + 1) pages)

-- the same once the page is another one
pub concat-set : (pages : List (List ℕ)) (i : ℕ) (page : List ℕ) → i < length pages
    → concat (set pages i page) ≡ concat (take i pages) ++ (page ++ concat (drop (i + 1) pages))
concat-set pages i page within =
    ap concat (set_split pages i page within)
    ∙ concat-append (take i pages) (page ∷ drop (suc i) pages)
    ∙ ap (λ k. concat (take i pages) ++ (page ++ concat (drop k pages))) (sym (add-one i))

-- what comes before page i
pub take_before : (pages : List (List ℕ)) (i : ℕ) → AreWhole pages → i < length pages
    → take (PAGE_LEN * i) (concat pages) ≡ concat (take i pages)
take_before pages i whole within =
    ap (take (PAGE_LEN * i)) (concat_at pages i within)
    ∙ take_at (concat (take i pages)) _ (PAGE_LEN * i) (length-before pages i whole (omega arith))

-- what comes from page i on
pub drop_before : (pages : List (List ℕ)) (i : ℕ) → AreWhole pages → i < length pages
    → drop (PAGE_LEN * i) (concat pages) ≡ get_or pages i [] ++ concat (drop (i + 1) pages)
drop_before pages i whole within =
    ap (drop (PAGE_LEN * i)) (concat_at pages i within)
    ∙ drop_at (concat (take i pages)) _ (PAGE_LEN * i) (length-before pages i whole (omega arith))

-- a page is whole
pub page_length : (pages : List (List ℕ)) (i : ℕ) → AreWhole pages → i < length pages
    → length (get_or pages i []) ≡ PAGE_LEN
page_length pages i whole within = All-get_or (λ p. length p ≡ PAGE_LEN) pages i [] within whole

-- what comes after the first n bytes of page i
pub drop_within : (pages : List (List ℕ)) (i n : ℕ) → AreWhole pages → i < length pages → n ≤ PAGE_LEN
    → drop (PAGE_LEN * i + n) (concat pages) ≡ drop n (get_or pages i []) ++ concat (drop (i + 1) pages)
drop_within pages i n whole within short =
    let long : n ≤ length (get_or pages i []) = omega (arith, page_length pages i whole within) in
    sym (drop-drop n (PAGE_LEN * i) (concat pages)) ∙ ap (drop n) (drop_before pages i whole within)
    ∙ drop-append-le n (get_or pages i []) (concat (drop (i + 1) pages)) long

-- page i
pub page_is : (pages : List (List ℕ)) (i : ℕ) → AreWhole pages → i < length pages
    → take PAGE_LEN (drop (PAGE_LEN * i) (concat pages)) ≡ get_or pages i []
page_is pages i whole within =
    ap (take PAGE_LEN) (drop_before pages i whole within)
    ∙ take_at (get_or pages i []) _ PAGE_LEN (page_length pages i whole within)

-- the first bytes once the first n bytes of page i are others
pub written : (pages : List (List ℕ)) (i len n : ℕ) (front : List ℕ) → AreWhole pages → i < length pages
    → n ≤ PAGE_LEN → PAGE_LEN * i + n ≤ len → length front ≡ n
    → take len (concat (set pages i (front ++ drop n (get_or pages i []))))
    ≡ take (PAGE_LEN * i) (take len (concat pages)) ++ front ++ drop (PAGE_LEN * i + n) (take len (concat pages))
written pages i len n front whole within short room long =
    let all : List ℕ = concat pages in
    let page : List ℕ = get_or pages i [] in
    let before : List ℕ = concat (take i pages) in
    let after : List ℕ = concat (drop (i + 1) pages) in
    let at : ℕ = PAGE_LEN * i + n in
    let rest : ℕ = len - at in
    let whole_len : at + rest ≡ len = omega arith in
    let two : length (before ++ front) ≡ at =
    omega (arith, length-append before front, length-before pages i whole (omega arith)) in
    let joined : concat (set pages i (front ++ drop n page)) ≡ (before ++ front) ++ drop at all =
    concat-set pages i (front ++ drop n page) within
    ∙ ap (λ bs. before ++ bs) (append_assoc front (drop n page) after)
    ∙ sym (append_assoc before front (drop n page ++ after))
    ∙ ap (λ bs. (before ++ front) ++ bs) (sym (drop_within pages i n whole within short)) in
    let cut : take len ((before ++ front) ++ drop at all) ≡ (before ++ front) ++ take rest (drop at all) =
    ap (λ k. take k ((before ++ front) ++ drop at all)) (sym whole_len ∙ ap (λ k. k + rest) (sym two))
    ∙ take-append-add (before ++ front) (drop at all) rest in
    let tail : take rest (drop at all) ≡ drop at (take len all) =
    sym (drop-take at rest all) ∙ ap (λ k. drop at (take k all)) whole_len in
    let head : before ≡ take (PAGE_LEN * i) (take len all) =
    sym (take_before pages i whole within) ∙ sym (take-take (PAGE_LEN * i) len all (omega arith)) in
    ap (take len) joined ∙ cut ∙ ap (λ bs. (before ++ front) ++ bs) tail
    ∙ ap (λ bs. (bs ++ front) ++ drop at (take len all)) head
