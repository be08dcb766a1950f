-- A block that is allocated in a half of a run, or freed in one.
use Rattle.std.proofs.Common.{◌≡◌, ℕ, ◌+◌, ◌^◌, ◌<◌, ◌≤◌, suc, refl, sym, arith, false, not, List, ◌++◌, get_or, Option, Some, None}
use Rattle.std.specs.List.{All}
use Rattle.std.specs.Option.{is_some}
use Rattle.std.proofs.lemmas.List.Elements.{All-map, All-append, filter-append}
use Rattle.std.proofs.lemmas.List.Folds.{list_any-append, list_any_none}
use Rattle.std.proofs.lemmas.Bool.Decides.{nat_tests}
use Rattle.std.proofs.lemmas.Nat.{pow_pos}
use Rattle.mq_tree.specs.Blocks.{PlainBlock, block, IsInArena, is_block, moved_up}
use Rattle.mq_tree.specs.LentSet.{inserted, left, is_lent}
use Rattle.mq_tree.specs.Fit.{fit}
use Rattle.mq_tree.proofs.Powers.{order_le}
use Rattle.mq_tree.proofs.Fits.{fit_passes}
use Rattle.mq_tree.proofs.LentSets.{is_block_start, is_block_order, joined_left, joined_right, joined_moved, left_absent, left_moved, is_lent_moved}

pub none_is : (o : Option ℕ) → is_some o ≡ false → o ≡ None
none_is None t = refl
none_is (Some s) t = absurd (cc)

-- ---- allocating in a half
module _ (half : ℕ) (xs ys : List PlainBlock) (order : ℕ) (low : order ≤ half) (inside : All (IsInArena half) xs) where
  pub lent_left : (s : ℕ) → fit half xs order ≡ Some s → inserted (block s order) xs ++ moved_up (2 ^ half) ys ≡ inserted (block s order) (xs ++ moved_up (2 ^ half) ys)
  lent_left s e =
      let l = (fit_passes half xs order s e).in_arena in
      sym (joined_left (block s order) xs (moved_up (2 ^ half) ys)
      (All-map (λ c. s < c.start) (λ y. block (2 ^ half + y.start) y.order) ys (λ k d u. omega (arith, l, pow_pos order))))

  pub lent_right : (s : ℕ) → xs ++ moved_up (2 ^ half) (inserted (block s order) ys) ≡ inserted (block (2 ^ half + s) order) (xs ++ moved_up (2 ^ half) ys)
  lent_right s =
      rw (joined_right (block (2 ^ half + s) order) xs (moved_up (2 ^ half) ys) (λ k d u. omega (arith, inside k d u)), joined_moved (2 ^ half) (block s order) ys) refl

-- ---- freeing in a half
module _ (half : ℕ) (xs ys : List PlainBlock) (order : ℕ) (inside : All (IsInArena half) xs) where
  up_absent : (s : ℕ) → s < 2 ^ half → All (λ c. is_block (block s order) c ≡ false) (moved_up (2 ^ half) ys)
  up_absent s l =
      All-map (λ c. is_block (block s order) c ≡ false) (λ y. block (2 ^ half + y.start) y.order) ys
      (λ k d u. is_block_start (block s order) _ (λ e. omega (arith, l, e)))

  low_absent : (s : ℕ) → 2 ^ half ≤ s → All (λ c. is_block (block s order) c ≡ false) xs
  low_absent s l = λ k d u. is_block_start (block s order) _ (λ e. omega (arith, l, e, inside k d u, pow_pos (get_or xs k d).order))

  pub is_lent_left : (s : ℕ) → s < 2 ^ half → is_lent (block s order) (xs ++ moved_up (2 ^ half) ys) ≡ is_lent (block s order) xs
  is_lent_left s l =
      rw (list_any-append (is_block (block s order)) xs (moved_up (2 ^ half) ys), list_any_none (is_block (block s order)) (moved_up (2 ^ half) ys) (up_absent s l))
      (grind (arith, nat_tests))

  pub left_left : (s : ℕ) → s < 2 ^ half → left (block s order) (xs ++ moved_up (2 ^ half) ys) ≡ left (block s order) xs ++ moved_up (2 ^ half) ys
  left_left s l =
      rw (filter-append (λ c. not (is_block (block s order) c)) xs (moved_up (2 ^ half) ys), left_absent (block s order) (moved_up (2 ^ half) ys) (up_absent s l)) refl

  pub is_lent_right : (s : ℕ) → is_lent (block (2 ^ half + s) order) (xs ++ moved_up (2 ^ half) ys) ≡ is_lent (block s order) ys
  is_lent_right s =
      rw (list_any-append (is_block (block (2 ^ half + s) order)) xs (moved_up (2 ^ half) ys), list_any_none (is_block (block (2 ^ half + s) order)) xs (low_absent (2 ^ half + s) (omega arith)))
      (is_lent_moved (2 ^ half) (block s order) ys)

  pub left_right : (s : ℕ) → left (block (2 ^ half + s) order) (xs ++ moved_up (2 ^ half) ys) ≡ xs ++ moved_up (2 ^ half) (left (block s order) ys)
  left_right s =
      rw (
        filter-append (λ c. not (is_block (block (2 ^ half + s) order) c)) xs (moved_up (2 ^ half) ys),
        left_absent (block (2 ^ half + s) order) xs (low_absent (2 ^ half + s) (omega arith)),
        left_moved (2 ^ half) (block s order) ys,
      ) refl

-- ---- blocks that are not allocated
-- the blocks of two halves are of lower orders than the whole
pub whole_absent : (half : ℕ) (xs ys : List PlainBlock) (start : ℕ) → All (IsInArena half) xs → All (IsInArena half) ys
    → All (λ c. is_block (block start (suc half)) c ≡ false) (xs ++ moved_up (2 ^ half) ys)
whole_absent half xs ys start low high =
    let P : PlainBlock → Type 0 = λ c. is_block (block start (suc half)) c ≡ false in
    let lower : (c : PlainBlock) (s : ℕ) → IsInArena half c → P (block s c.order) =
    λ c s within. is_block_order (block start (suc half)) (block s c.order) (λ e. omega (arith, e, order_le c.order half (omega (arith, within)))) in
    All-append P xs (moved_up (2 ^ half) ys) (λ k d u. lower _ _ (low k d u))
    (All-map P (λ y. block (2 ^ half + y.start) y.order) ys (λ k d u. lower _ _ (high k d u)))
