-- A block by its node: it is allocated where the node is 0, and setting that node free frees it.
use Rattle.std.proofs.Common.{◌≡◌, ℕ, ◌+◌, ◌*◌, ◌/◌, ◌^◌, ◌<◌, ◌≤◌, zero, suc, refl, sym, ◌∙◌, arith, inl, inr, true, false, List, [], ◌++◌, set, eqb}
use Rattle.std.specs.List.{All}
use Rattle.std.proofs.lemmas.Bool.{cases_eq, eq-eqb, ne_eqb, false_from_ne_true}
use Rattle.std.proofs.lemmas.List.{get_or-set_same}
use Rattle.std.proofs.lemmas.List.Elements.{All-contains}
use Rattle.std.proofs.lemmas.List.Folds.{list_any_none}
use Rattle.mq_tree.specs.Blocks.{PlainBlock, block, is_block, IsInArena, IsAligned, moved_up}
use Rattle.mq_tree.specs.LentSet.{IsLentSet, left, is_lent}
use Rattle.mq_tree.specs.Nodes.{node_at}
use Rattle.mq_tree.specs.Trees.{blocks_under, lent_blocks, HasHeight, IsTree, IsClear, IsFreed}
use Rattle.mq_tree.specs.Trees.{IsRunOf}
use Rattle.mq_tree.proofs.Heap.{up_last, up_none, one_of_halves, over_root, to_left, to_right, place_pos, place_below}
use Rattle.mq_tree.proofs.LentSets.{is_block_itself, is_block_order}
use Rattle.mq_tree.proofs.Trees.{free_halves, free_blocks, free_under_lent, blocks_lent, blocks_leaf, blocks_halves, blocks_lent_set}
use Rattle.mq_tree.proofs.Halves.{is_lent_left, is_lent_right, left_left, left_right, whole_absent}
use Rattle.mq_tree.proofs.Kept.{lent_member}
use Rattle.mq_tree.proofs.Changes.{left_written, right_written, later_kept, clear_marked, marked_free}
use Rattle.mq_tree.proofs.Starts.{start_in, start_none, start_left, start_right, start_whole, start_below, pow_sum}

module _ (height order j : ℕ) (nodes : List ℕ) (tree : IsTree height nodes) (place : HasHeight height order j) where
  -- the nodes once node j is free
  abbrev pub freed : List ℕ
  freed = set nodes j (order + 2)

  -- node j, d steps under node i of height k, determines whether its block is allocated there, and
  -- setting it free frees the block
  pub record IsTold (d k i : ℕ) : Type 0 where
    pub lent_is : is_lent (block (start_in d order j) order) (blocks_under k i nodes) ≡ eqb (node_at nodes j) 0
    pub left_is : node_at nodes j ≡ 0 → blocks_under k i freed ≡ left (block (start_in d order j) order) (blocks_under k i nodes)

  freed_at : node_at freed j ≡ order + 2
  freed_at = get_or-set_same nodes j (order + 2) 0 (omega (arith, tree.len, place_below place))

  -- ---- the node itself
  -- a run whose node is not 0 is not allocated as one block
  none_lent : (k s : ℕ) → (node_at nodes j ≡ 0 → ⊥) → is_lent (block s k) (blocks_under k j nodes) ≡ false
  none_lent zero s n = rw (blocks_leaf 0 j nodes n) refl
  none_lent (suc half) s n =
      rw (blocks_halves half j nodes n) (list_any_none (is_block (block s (suc half))) (blocks_under half (2 * j) nodes ++ moved_up (2 ^ half) (blocks_under half (2 * j + 1) nodes))
      (whole_absent half (blocks_under half (2 * j) nodes) (blocks_under half (2 * j + 1) nodes) s (blocks_lent_set half (2 * j) nodes).in_arena (blocks_lent_set half (2 * j + 1) nodes).in_arena))

  -- once a run that was allocated as one block is free, nothing in it is allocated
  freed_blocks : (k : ℕ) → HasHeight height k j → node_at nodes j ≡ 0 → blocks_under k j freed ≡ []
  freed_blocks zero p z = blocks_leaf 0 j freed (λ e. omega (arith, e, freed_at))
  freed_blocks (suc half) p z =
      let h = free_halves height nodes tree half j p (inr z) in
      rw (
        blocks_halves half j freed (λ e. omega (arith, e, freed_at)),
        later_kept half (2 * j) nodes j (order + 2) (omega (arith, place_pos p)),
        later_kept half (2 * j + 1) nodes j (order + 2) (omega arith),
        free_blocks height nodes tree half (2 * j) (to_left height half j p) h.0,
        free_blocks height nodes tree half (2 * j + 1) (to_right height half j p) h.1,
      ) refl

  told_here : IsTold 0 order j
  told_here = record {
    lent_is = elim (cases_eq (node_at nodes j) 0) [
      | inl z ↦ rw (start_none order j, blocks_lent order j nodes z, is_block_itself (block 0 order), eq-eqb (node_at nodes j) 0 z) refl
      | inr n ↦ rw (none_lent order (start_in 0 order j) n, ne_eqb (node_at nodes j) 0 n) refl
    ];
    left_is = λ z. rw (freed_blocks order place z, start_none order j, blocks_lent order j nodes z, is_block_itself (block 0 order)) refl;
  }

  -- ---- a node over it
  module _ (d half i : ℕ) (over : j / 2 ^ suc d ≡ i) (sum : d + order ≡ half) (low : suc half ≤ height) where
    abbrev xs : List PlainBlock
    xs = blocks_under half (2 * i) nodes

    abbrev ys : List PlainBlock
    ys = blocks_under half (2 * i + 1) nodes

    inside : All (IsInArena half) xs
    inside = (blocks_lent_set half (2 * i) nodes).in_arena

    -- that one is allocated as one block
    told_in_lent : node_at nodes i ≡ 0 → IsTold (suc d) (suc half) i
    told_in_lent z =
        let free : node_at nodes j ≡ order + 2 = free_under_lent height nodes tree order j d place (omega (arith, sum)) (rw over z) in
        let b = block (start_in (suc d) order j) order in
        record {
          lent_is = rw (blocks_lent (suc half) i nodes z, is_block_order b (block 0 (suc half)) (λ e. omega (arith, e, sum)), ne_eqb (node_at nodes j) 0 (λ e. omega (arith, e, free))) refl;
          left_is = λ e. absurd (omega (arith, e, free));
        }

    module _ (split : node_at nodes i ≡ 0 → ⊥) (some : 0 < i) where
      -- from the half that node j is in
      told_up : (s : ℕ) → start_in (suc d) order j ≡ s → is_lent (block s order) (xs ++ moved_up (2 ^ half) ys) ≡ eqb (node_at nodes j) 0
          → (node_at nodes j ≡ 0 → blocks_under (suc half) i freed ≡ left (block s order) (xs ++ moved_up (2 ^ half) ys)) → IsTold (suc d) (suc half) i
      told_up s is lent back = let parts = blocks_halves half i nodes split in record { lent_is = rw (is, parts) lent; left_is = λ z. rw (is, parts) (back z) }

      told_left : j / 2 ^ d ≡ 2 * i → IsTold d half (2 * i) → IsTold (suc d) (suc half) i
      told_left e t =
          let s = start_in d order j in
          let l = start_below d order half j sum in
          told_up s (start_left d order j i e) (is_lent_left half xs ys order inside s l ∙ t.lent_is)
          (λ z. rw (left_written half i d nodes j (order + 2) some split e, t.left_is z) (sym (left_left half xs ys order inside s l)))

      told_right : j / 2 ^ d ≡ 2 * i + 1 → IsTold d half (2 * i + 1) → IsTold (suc d) (suc half) i
      told_right e t =
          let s = start_in d order j in
          told_up (2 ^ half + s) (rw (pow_sum d order half sum) (start_right d order j i e)) (is_lent_right half xs ys order inside s ∙ t.lent_is)
          (λ z. rw (right_written half i d nodes j (order + 2) some split e, t.left_is z) (sym (left_right half xs ys order inside s)))

  told : (d k i : ℕ) → j / 2 ^ d ≡ i → d + order ≡ k → k ≤ height → 0 < i → IsTold d k i
  told zero k i over e low some =
      let f : k ≡ order = omega (arith, e) in
      let g : i ≡ j = sym over ∙ up_none j in
      rw (f, g) told_here
  told (suc d) zero i over e low some = absurd (omega (arith, e))
  told (suc d) (suc half) i over e low some =
      let sum : d + order ≡ half = omega (arith, e) in
      let up : j / 2 ^ d / 2 ≡ i = sym (up_last d j) ∙ over in
      elim (cases_eq (node_at nodes i) 0) [
        | inl z ↦ told_in_lent d half i over sum low z
        | inr n ↦ elim (one_of_halves (j / 2 ^ d)) [
          | inl l ↦ let h : j / 2 ^ d ≡ 2 * i = rw up at l in told_left d half i over sum low n some h (told d half (2 * i) h sum (omega arith) (omega (arith, some)))
          | inr r ↦ let h : j / 2 ^ d ≡ 2 * i + 1 = rw up at r in told_right d half i over sum low n some h (told d half (2 * i + 1) h sum (omega arith) (omega arith))
        ]
      ]

-- ---- in the whole arena
module _ {height order start j : ℕ} {nodes : List ℕ} (tree : IsTree height nodes) (run : IsRunOf height order start j) where
  whole : IsTold height order j nodes tree run.place run.place.depth height 1
  whole = told height order j nodes tree run.place run.place.depth height 1 run.place.root_is run.place.depth_is (omega arith) (omega arith)

  at_start : start ≡ start_in run.place.depth order j
  at_start = sym (start_whole height order j run.place ∙ run.start_is)

  -- its node determines whether the block is allocated
  pub told_lent : node_at nodes j ≡ 0 → is_lent (block start order) (lent_blocks height nodes) ≡ true
  told_lent e = rw (at_start, whole.lent_is) (eq-eqb (node_at nodes j) 0 e)

  pub told_not_lent : (node_at nodes j ≡ 0 → ⊥) → is_lent (block start order) (lent_blocks height nodes) ≡ false
  told_not_lent n = rw (at_start, whole.lent_is) (ne_eqb (node_at nodes j) 0 n)

  -- and setting that node free frees the block
  pub told_freed : node_at nodes j ≡ 0 → lent_blocks height (set nodes j (order + 2)) ≡ left (block start order) (lent_blocks height nodes)
  told_freed e = rw at_start (whole.left_is e)

  -- no node over it is allocated as one block
  clear_over : node_at nodes j ≡ 0 → IsClear j nodes
  clear_over e n l = grind (arith, free_under_lent height nodes tree order j n run.place (over_root run.place (suc n) l))

  pub freed_open : node_at nodes j ≡ 0 → IsFreed height order j (set nodes j (order + 2))
  freed_open e = record {
    opened = record {
      place = run.place;
      clear = clear_marked height order j nodes tree run.place (order + 2) (clear_over e);
      tree = marked_free height order j nodes tree run.place e;
    };
    free = get_or-set_same nodes j (order + 2) 0 (omega (arith, tree.len, place_below run.place));
  }

-- an allocated block is aligned, and in the arena
pub not_lent : (height : ℕ) (lent : List PlainBlock) (b : PlainBlock) → IsLentSet height lent → (IsAligned b → IsInArena height b → ⊥) → is_lent b lent ≡ false
not_lent height lent b s n = false_from_ne_true (is_lent b lent) (λ t.
    let there = lent_member b lent t in
    n (All-contains IsAligned lent b s.aligned there) (All-contains (IsInArena height) lent b s.in_arena there))
