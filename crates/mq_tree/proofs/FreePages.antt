-- How many pages are free: allocating a block takes as many as it has, and freeing it returns as
-- many.
use Rattle.std.proofs.Common.{◌≡◌, ℕ, ◌+◌, ◌^◌, ◌<◌, ◌≤◌, ◌⊎◌, refl, ◌∙◌, arith, inl, inr, get_or, true, false, not, cond, ◌&&◌, List, [], ◌∷◌, Some, leb, ltb}
use Rattle.std.specs.List.{All, AllPairs, Contains, sum_by}
use Rattle.std.proofs.lemmas.Bool.{cases_Bool, cond_both, both_ways, and_parts, leb-true, ltb-true, false_from_ne_true, not_from_false, not-true}
use Rattle.std.proofs.lemmas.Bool.Decides.{nat_tests}
use Rattle.std.proofs.lemmas.List.Elements.{All-head, All-tail, All-filter, All-contains, All-contains_itself, filter_passes}
use Rattle.std.proofs.lemmas.List.Folds.{list_all_at}
use Rattle.std.proofs.lemmas.List.Sums.{list_all-from_AllPass, sum_by-cons}
use Rattle.mq_tree.specs.Blocks.{PlainBlock, block, HasPage, has_page, page_count, IsInArena, AreApart, is_block}
use Rattle.mq_tree.specs.LentSet.{IsLentSet, inserted, left, is_lent, is_free_page, free_pages}
use Rattle.mq_tree.specs.Fit.{fit}
use Rattle.mq_tree.proofs.Ranges.{count_sum, count_between, count_all}
use Rattle.mq_tree.proofs.LentSets.{AllPairs-head, AllPairs-tail, is_block-true, is_block_itself}
use Rattle.mq_tree.proofs.LawLemmas.{lent_apart}
use Rattle.mq_tree.proofs.Kept.{fit_apart, lent_member}
use Rattle.mq_tree.proofs.Fits.{fit_passes}

pub page_of : (b : PlainBlock) (page : ℕ) → has_page b page ≡ true → HasPage b page
page_of b page t =
    let p = and_parts (leb b.start page) (ltb page (b.start + 2 ^ b.order)) t in
    record { from = leb-true b.start page p.0; below = ltb-true page (b.start + 2 ^ b.order) p.1 }

-- a page that is not in a block lies beside it
pub page_beside : (b : PlainBlock) (page : ℕ) → has_page b page ≡ false → (page < b.start) ⊎ (b.start + 2 ^ b.order ≤ page)
page_beside b page out = grind (arith, nat_tests)

-- a block apart from each allocated one has only free pages
pub free_when_apart : (b : PlainBlock) (lent : List PlainBlock) → All (AreApart b) lent → (page : ℕ) → HasPage b page → is_free_page lent page ≡ true
free_when_apart b lent apart page h =
    list_all-from_AllPass (λ c. not (has_page c page)) lent
    (λ k d u. not_from_false (has_page _ page) (false_from_ne_true (has_page _ page) (λ t. apart k d u page h (page_of _ page t))))

-- where the free pages of the one lent set are those of the other without the pages of a block, which are all free there
free_less : (height : ℕ) (b : PlainBlock) (small big : List PlainBlock) → IsInArena height b
    → ((page : ℕ) → is_free_page big page ≡ (not (has_page b page) && is_free_page small page))
    → ((page : ℕ) → HasPage b page → is_free_page small page ≡ true)
    → free_pages height small ≡ free_pages height big + 2 ^ b.order
unfolding free_pages
free_less height b small big within split free =
    let each : (x : ℕ) → cond (is_free_page small x) 1 0 ≡ cond (is_free_page big x) 1 0 + cond (has_page b x) 1 0 =
    λ x. elim (cases_Bool (has_page b x)) [ inl e ↦ rw (split x, e, free x (page_of b x e)) refl | inr e ↦ rw (split x, e) (omega arith) ] in
    omega (arith, count_sum (is_free_page small) (is_free_page big) (has_page b) 0 (2 ^ height) each, count_between b.start (b.start + 2 ^ b.order) 0 (2 ^ height), within)

-- with nothing allocated each page is free
pub new_free : (height : ℕ) → free_pages height [] ≡ 2 ^ height
unfolding free_pages
new_free height = count_all 0 (2 ^ height)

pub is_free_page-joined : (b : PlainBlock) (lent : List PlainBlock) (page : ℕ) → is_free_page (inserted b lent) page ≡ (not (has_page b page) && is_free_page lent page)
is_free_page-joined b [] page = refl
is_free_page-joined b (c ∷ cs) page =
    cond_both (ltb b.start c.start) (b ∷ c ∷ cs) (c ∷ inserted b cs) (λ l. is_free_page l page ≡ (not (has_page b page) && is_free_page (c ∷ cs) page)) (λ _. refl)
    (λ _. rw (is_free_page-joined b cs page) (grind (arith, nat_tests)))

-- allocating a block takes its pages from the free ones
pub free_joined : (height : ℕ) (lent : List PlainBlock) (order start : ℕ) → fit height lent order ≡ Some start
    → free_pages height lent ≡ free_pages height (inserted (block start order) lent) + 2 ^ order
free_joined height lent order start found =
    free_less height (block start order) lent (inserted (block start order) lent) (fit_passes height lent order start found).in_arena
    (is_free_page-joined (block start order) lent)
    (free_when_apart (block start order) lent (fit_apart height lent order start found))

-- an allocated block has no free page
is_free_page-lent : (b : PlainBlock) (lent : List PlainBlock) (page : ℕ) → is_lent b lent ≡ true → is_free_page lent page ≡ (not (has_page b page) && is_free_page lent page)
is_free_page-lent b lent page t = elim (cases_Bool (has_page b page)) [
  | inl e ↦ let m = lent_member b lent t in rw e (list_all_at (λ c. not (has_page c page)) lent m.0 b m.1 (rw (m.2, e) refl))
  | inr e ↦ rw e refl
]

-- a page beside a block is as free as without the block
free_beside : (b : PlainBlock) (lent : List PlainBlock) (page : ℕ) → has_page b page ≡ false → is_free_page lent page ≡ is_free_page (left b lent) page
free_beside b [] page e = refl
free_beside b (c ∷ cs) page e = elim (cases_Bool (is_block b c)) [
  | inl t ↦ rw (t, ← is_block-true b c t, e) (free_beside b cs page e)
  | inr t ↦ rw (t, free_beside b cs page e) refl
]

pub is_free_page-left : (b : PlainBlock) (lent : List PlainBlock) (page : ℕ) → (not (has_page b page) && is_free_page lent page) ≡ (not (has_page b page) && is_free_page (left b lent) page)
is_free_page-left b lent page = elim (cases_Bool (has_page b page)) [ inl e ↦ rw e refl | inr e ↦ rw e (free_beside b lent page e) ]

-- the other allocated blocks are apart from it
others_apart : (height : ℕ) (b : PlainBlock) (lent : List PlainBlock) → IsLentSet height lent → is_lent b lent ≡ true → All (AreApart b) (left b lent)
others_apart height b lent s t k d u page h g =
    let c = get_or (left b lent) k d in
    let there : Contains lent c = All-filter (λ x. not (is_block b x)) (Contains lent) lent (All-contains_itself lent) k d u in
    let other : not (is_block b c) ≡ true = filter_passes (λ x. not (is_block b x)) lent k d u in
    let same : b ≡ c = lent_apart height lent b c page s (lent_member b lent t) there h g in
    both_ways (is_block b c) (not-true (is_block b c) other) (rw (← same) (is_block_itself b))

-- freeing an allocated block returns its pages to the free ones
pub free_left : (height : ℕ) (lent : List PlainBlock) (b : PlainBlock) → IsLentSet height lent → is_lent b lent ≡ true
    → free_pages height (left b lent) ≡ free_pages height lent + 2 ^ b.order
free_left height lent b s t =
    free_less height b (left b lent) lent (All-contains (IsInArena height) lent b s.in_arena (lent_member b lent t))
    (λ page. is_free_page-lent b lent page t ∙ is_free_page-left b lent page)
    (free_when_apart b (left b lent) (others_apart height b lent s t))

-- the free pages and the allocated ones are all the pages
blocks_sum : (height : ℕ) (lent : List PlainBlock) → All (IsInArena height) lent → AllPairs AreApart lent → free_pages height lent + sum_by page_count lent ≡ 2 ^ height
blocks_sum height [] inside apart = omega (arith, new_free height)
blocks_sum height (b ∷ lent) inside apart =
    let free = free_when_apart b lent (AllPairs-head AreApart b lent apart) in
    let less = free_less height b lent (b ∷ lent) (All-head (IsInArena height) b lent inside) (λ page. refl) free in
    let rest = blocks_sum height lent (All-tail (IsInArena height) b lent inside) (AllPairs-tail AreApart b lent apart) in
    omega (arith, less, rest, sum_by-cons page_count b lent)

pub free_sum : (height : ℕ) (lent : List PlainBlock) → IsLentSet height lent → free_pages height lent + sum_by page_count lent ≡ 2 ^ height
free_sum height lent s = blocks_sum height lent s.in_arena s.apart
