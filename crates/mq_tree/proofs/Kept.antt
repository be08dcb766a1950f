-- What is a lent set: the empty one, a whole arena, two halves, a block more, a block less.
use Rattle.std.proofs.Common.{◌≡◌, ℕ, ◌+◌, ◌-◌, ◌^◌, ◌≤◌, suc, ◌∙◌, arith, true, not, List, [], ◌∷◌, ◌++◌, Some}
use Rattle.std.specs.List.{All, Contains}
use Rattle.std.proofs.lemmas.Nat.{pow_pos}
use Rattle.std.proofs.lemmas.List.Elements.{All-nil, All-append, All-map, All-filter}
use Rattle.std.proofs.lemmas.List.Folds.{Any-from_list_any}
use Rattle.mq_tree.specs.Blocks.{PlainBlock, block, IsAligned, IsInArena, AreApart, is_block, moved_up}
use Rattle.mq_tree.specs.LentSet.{IsLentSet, StartsBefore, inserted, left, is_lent}
use Rattle.mq_tree.specs.Fit.{fit}
use Rattle.mq_tree.proofs.Powers.{pow_suc, mod_up, order_le}
use Rattle.mq_tree.proofs.Fits.{fit_is, fit_empty}
use Rattle.mq_tree.proofs.LentSets.{AllPairs-nil, AllPairs-append, AllPairs-map, AllPairs-filter, All-joined, AllPairs-joined, is_block-true, is_block_start, left-joined}

pub IsLentSet-nil : (height : ℕ) → IsLentSet height []
IsLentSet-nil height = record { aligned = All-nil IsAligned; in_arena = All-nil (IsInArena height); apart = AllPairs-nil AreApart; in_order = AllPairs-nil StartsBefore }

-- the lent sets of two halves
module _ (half : ℕ) (xs ys : List PlainBlock) (left_set : IsLentSet half xs) (right_set : IsLentSet half ys) where
  cross : (R : PlainBlock → PlainBlock → Type 0) → ((a b : PlainBlock) → a.start + 2 ^ a.order ≤ b.start → R a b) → All (λ x. All (R x) (moved_up (2 ^ half) ys)) xs
  cross R before k d u =
      All-map (R _) (λ y. block (2 ^ half + y.start) y.order) ys (λ j e v. before _ _ (omega (arith, left_set.in_arena k d u)))

  pub IsLentSet-halves : IsLentSet (suc half) (xs ++ moved_up (2 ^ half) ys)
  IsLentSet-halves = record {
    aligned =
        All-append IsAligned xs (moved_up (2 ^ half) ys) left_set.aligned
        (All-map IsAligned (λ y. block (2 ^ half + y.start) y.order) ys (λ k d u.
        let within : IsInArena half _ = right_set.in_arena k d u in
        mod_up _ half _ (order_le _ half (omega (arith, within))) ∙ right_set.aligned k d u));
    in_arena =
        All-append (IsInArena (suc half)) xs (moved_up (2 ^ half) ys)
        (λ k d u. omega (arith, left_set.in_arena k d u, pow_suc half))
        (All-map (IsInArena (suc half)) (λ y. block (2 ^ half + y.start) y.order) ys (λ k d u. omega (arith, right_set.in_arena k d u, pow_suc half)));
    apart =
        AllPairs-append AreApart xs (moved_up (2 ^ half) ys) left_set.apart
        (AllPairs-map AreApart AreApart (λ y. block (2 ^ half + y.start) y.order)
        (λ a b apart page h k.
        apart (page - 2 ^ half) (record { from = omega (arith, h.from); below = omega (arith, h.from, h.below) })
        (record { from = omega (arith, k.from); below = omega (arith, k.from, k.below) })) ys right_set.apart)
        (cross AreApart (λ a b l page h k. omega (arith, l, h.below, k.from)));
    in_order =
        AllPairs-append StartsBefore xs (moved_up (2 ^ half) ys) left_set.in_order
        (AllPairs-map StartsBefore StartsBefore (λ y. block (2 ^ half + y.start) y.order) (λ a b l. omega (arith, l)) ys right_set.in_order)
        (cross StartsBefore (λ a b l. omega (arith, l, pow_pos a.order)));
  }

-- a block that fits is apart from each allocated one, and has another start
module _ (height : ℕ) (lent : List PlainBlock) (order start : ℕ) (found : fit height lent order ≡ Some start) where
  pub fit_apart : All (AreApart (block start order)) lent
  fit_apart = λ k d u page h. (fit_is height lent order start found).fits.free page h k d u

  other_start : (c : PlainBlock) → AreApart (block start order) c → c.start ≡ start → ⊥
  other_start c apart e =
      apart start (record { from = omega arith; below = omega (arith, pow_pos order) }) (record { from = omega (arith, e); below = omega (arith, e, pow_pos c.order) })

  -- allocating it and freeing it restores the lent set
  pub left_fit : left (block start order) (inserted (block start order) lent) ≡ lent
  left_fit = left-joined (block start order) lent (λ k d u. is_block_start (block start order) _ (other_start _ (fit_apart k d u)))

  -- a block more that fits
  pub IsLentSet-joined : IsLentSet height lent
      → IsLentSet height (inserted (block start order) lent)
  IsLentSet-joined s =
      let p = (fit_is height lent order start found).fits in
      let b = block start order in
      record {
        aligned = All-joined IsAligned b lent p.aligned s.aligned;
        in_arena = All-joined (IsInArena height) b lent p.in_arena s.in_arena;
        apart =
            AllPairs-joined AreApart b lent s.in_order s.apart
            (λ k d u _. fit_apart k d u) (λ k d u _ page h g. fit_apart k d u page g h);
        in_order =
            AllPairs-joined StartsBefore b lent s.in_order s.in_order (λ k d u l. l)
            (λ k d u l. omega (arith, other_start _ (fit_apart k d u), l));
      }

-- the whole arena as one block
pub IsLentSet-whole : (height : ℕ) → IsLentSet height (block 0 height ∷ [])
IsLentSet-whole height = IsLentSet-joined height [] height 0 (fit_empty height height (omega arith)) (IsLentSet-nil height)

-- a block less
pub IsLentSet-left : (height : ℕ) (b : PlainBlock) (lent : List PlainBlock) → IsLentSet height lent → IsLentSet height (left b lent)
IsLentSet-left height b lent s = record {
  aligned = All-filter (λ c. not (is_block b c)) IsAligned lent s.aligned;
  in_arena = All-filter (λ c. not (is_block b c)) (IsInArena height) lent s.in_arena;
  apart = AllPairs-filter AreApart (λ c. not (is_block b c)) lent s.apart;
  in_order = AllPairs-filter StartsBefore (λ c. not (is_block b c)) lent s.in_order;
}

-- a block that `is_lent` finds allocated is one of the list
pub lent_member : (b : PlainBlock) (lent : List PlainBlock) → is_lent b lent ≡ true
    → Contains lent b
lent_member b lent t = let a = Any-from_list_any (is_block b) lent t in rw (is_block-true b a.1 a.4) (a.0, a.2, a.3)
