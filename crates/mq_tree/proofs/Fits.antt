-- The result of `fit` is the least start at which a block fits, and only that.
use Rattle.std.proofs.Common.{◌≡◌, ℕ, ◌+◌, ◌%◌, ◌^◌, ◌<◌, ◌≤◌, refl, ap, arith, true, ◌&&◌, List, [], ◌∷◌, Option, Some, None, leb, eqb}
use Rattle.std.proofs.Math.Nat.{zero-mod}
use Rattle.std.specs.List.{All, list_all}
use Rattle.std.proofs.lemmas.Bool.{and_parts, leb-true, le-leb, eqb-true, eq-eqb, both_ways}
use Rattle.std.proofs.lemmas.Nat.{pow_pos, pow_below}
use Rattle.std.proofs.lemmas.List.Elements.{All-nil, All-head}
use Rattle.mq_tree.specs.Blocks.{PlainBlock, block, HasPage, IsInArena, are_apart}
use Rattle.mq_tree.specs.Fit.{fits_at, fit, Fits, IsFit, HasNoFit}
use Rattle.mq_tree.proofs.Ranges.{find_some, find_nowhere}
use Rattle.mq_tree.proofs.Apart.{free_from_test, test_from_free}

-- the three tests at a start, as facts
pub record Passes (height : ℕ) (lent : List PlainBlock) (order start : ℕ) : Type 0 where
  pub aligned : start % 2 ^ order ≡ 0
  pub in_arena : start + 2 ^ order ≤ 2 ^ height
  pub apart : list_all (are_apart (block start order)) lent ≡ true

pub passes : (height : ℕ) (lent : List PlainBlock) (order start : ℕ) → fits_at height lent order start ≡ true → Passes height lent order start
passes height lent order start t =
    let p = and_parts (eqb (start % 2 ^ order) 0 && leb (start + 2 ^ order) (2 ^ height)) (list_all (are_apart (block start order)) lent) t in
    let q = and_parts (eqb (start % 2 ^ order) 0) (leb (start + 2 ^ order) (2 ^ height)) p.0 in
    record { aligned = eqb-true (start % 2 ^ order) 0 q.0; in_arena = leb-true (start + 2 ^ order) (2 ^ height) q.1; apart = p.1 }

pub fits_test : (height : ℕ) (lent : List PlainBlock) (order start : ℕ) → Fits height lent order start → fits_at height lent order start ≡ true
fits_test height lent order start f =
    let apart = test_from_free (block start order) lent f.free in
    rw (eq-eqb (start % 2 ^ order) 0 f.aligned, le-leb (start + 2 ^ order) (2 ^ height) f.in_arena) apart

-- a start at which a block fits is a page of the arena
fits_below : (height : ℕ) (lent : List PlainBlock) (order start : ℕ) → Fits height lent order start → start < 2 ^ height
fits_below height lent order start f = omega (arith, f.in_arena, pow_pos order)

pub fit_passes : (height : ℕ) (lent : List PlainBlock) (order start : ℕ) → fit height lent order ≡ Some start → Passes height lent order start
unfolding fit
fit_passes height lent order start e = passes height lent order start (find_some (fits_at height lent order) 0 (2 ^ height) start e).passes

-- the result of `fit` fits, and no smaller start does
pub fit_is : (height : ℕ) (lent : List PlainBlock) (order start : ℕ) → fit height lent order ≡ Some start → IsFit height lent order start
unfolding fit
fit_is height lent order start e =
    let p = fit_passes height lent order start e in
    let before = (find_some (fits_at height lent order) 0 (2 ^ height) start e).first in
    record {
      fits = record { aligned = p.aligned; in_arena = p.in_arena; free = free_from_test (block start order) lent p.apart };
      least = λ other f. omega (arith, λ (l : other < start). both_ways (fits_at height lent order other) (before other (omega arith) l) (fits_test height lent order other f));
    }

-- where `fit` returns `None`, no start fits
pub no_fit_is : (height : ℕ) (lent : List PlainBlock) (order : ℕ) → fit height lent order ≡ None → HasNoFit height lent order
unfolding fit
no_fit_is height lent order e start f =
    both_ways (fits_at height lent order start) (find_nowhere (fits_at height lent order) 0 (2 ^ height) e start (omega arith) (omega (arith, fits_below height lent order start f)))
    (fits_test height lent order start f)

fit_of_answer : (height : ℕ) (lent : List PlainBlock) (order start : ℕ) (answer : Option ℕ) → fit height lent order ≡ answer → IsFit height lent order start → answer ≡ Some start
fit_of_answer height lent order start None e i = absurd (no_fit_is height lent order e start i.fits)
fit_of_answer height lent order start (Some other) e i =
    let j = fit_is height lent order other e in
    let same : other ≡ start = omega (arith, i.least other j.fits, j.least start i.fits) in
    ap (λ x. Some x) same

-- the least start that fits is what `fit` returns
pub fit_from : (height : ℕ) (lent : List PlainBlock) (order start : ℕ) → IsFit height lent order start → fit height lent order ≡ Some start
fit_from height lent order start i = fit_of_answer height lent order start (fit height lent order) refl i

none_of_answer : (height : ℕ) (lent : List PlainBlock) (order : ℕ) (answer : Option ℕ) → fit height lent order ≡ answer → HasNoFit height lent order → answer ≡ None
none_of_answer height lent order None e n = refl
none_of_answer height lent order (Some start) e n = absurd (n start (fit_is height lent order start e).fits)

pub no_fit_from : (height : ℕ) (lent : List PlainBlock) (order : ℕ) → HasNoFit height lent order → fit height lent order ≡ None
no_fit_from height lent order n = none_of_answer height lent order (fit height lent order) refl n

-- in an arena with nothing allocated each order up to the height fits at 0
pub fit_empty : (height order : ℕ) → 2 ^ order ≤ 2 ^ height → fit height [] order ≡ Some 0
fit_empty height order l =
    fit_from height [] order 0 (record {
      fits = record { aligned = zero-mod (2 ^ order); in_arena = omega arith; free = λ page h. All-nil (λ b. ¬ HasPage b page) };
      least = λ other f. omega arith;
    })

-- an order over the height fits nowhere
pub fit_over : (height : ℕ) (lent : List PlainBlock) (order : ℕ) → height < order → fit height lent order ≡ None
fit_over height lent order l = no_fit_from height lent order (λ start f. omega (arith, f.in_arena, pow_below height order l))

-- an arena that is allocated as one block has room for nothing
pub fit_lent : (height order : ℕ) → fit height (block 0 height ∷ []) order ≡ None
fit_lent height order =
    no_fit_from height (block 0 height ∷ []) order (λ start f.
    let l : start < 2 ^ height = fits_below height (block 0 height ∷ []) order start f in
    let free = f.free start (record { from = omega arith; below = omega (arith, pow_pos order) }) in
    All-head (λ b. ¬ HasPage b start) (block 0 height) [] free (record { from = omega arith; below = omega arith }))

-- where the whole arena fits, nothing is allocated
pub fit_whole : (height : ℕ) (lent : List PlainBlock) (start : ℕ) → All (IsInArena height) lent → fit height lent height ≡ Some start → lent ≡ []
fit_whole height [] start inside e = refl
fit_whole height (c ∷ cs) start inside e =
    let f = (fit_is height (c ∷ cs) height start e).fits in
    let within : c.start + 2 ^ c.order ≤ 2 ^ height = All-head (IsInArena height) c cs inside in
    let page : HasPage (block start height) c.start = record { from = omega (arith, f.in_arena); below = omega (arith, within, pow_pos c.order) } in
    absurd (All-head (λ b. ¬ HasPage b c.start) c cs (f.free c.start page) (record { from = omega arith; below = omega (arith, pow_pos c.order) }))
