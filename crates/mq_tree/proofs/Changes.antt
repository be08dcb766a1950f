-- Nodes of which one is written: the allocated blocks, and which nodes keep to the rule.
use Rattle.std.proofs.Common.{◌≡◌, ◌≢◌, ℕ, ◌+◌, ◌*◌, ◌/◌, ◌^◌, ◌<◌, ◌⊎◌, zero, suc, refl, sym, ap, ◌∙◌, arith, inl, inr, cond, List, [], ◌∷◌, ◌++◌, length, set, eqb}
use Rattle.std.proofs.Math.Nat.{div-le_self}
use Rattle.std.proofs.lemmas.Bool.{cases_eq, ne_eqb}
use Rattle.std.proofs.lemmas.List.{length-set, get_or-set_same, get_or-set_other}
use Rattle.mq_tree.specs.Blocks.{block, moved_up}
use Rattle.mq_tree.specs.Nodes.{node_at, IsRight}
use Rattle.mq_tree.specs.Trees.{blocks_under, HasHeight, IsTree, IsTreeBut, IsClear}
use Rattle.mq_tree.proofs.Heap.{up_last, halves_apart, over_differs, place_pos, place_below, place_height}
use Rattle.mq_tree.proofs.Trees.{parent_free, free_halves, blocks_halves}

-- ---- the blocks allocated under a node depend only on which nodes there are 0
pub blocks_same : (k i : ℕ) (old new : List ℕ) → ((j n : ℕ) → j / 2 ^ n ≡ i → eqb (node_at new j) 0 ≡ eqb (node_at old j) 0)
    → blocks_under k i new ≡ blocks_under k i old
unfolding blocks_under
blocks_same zero i old new same = ap (λ t. cond t (block 0 0 ∷ []) []) (same i 0 (omega arith))
blocks_same (suc half) i old new same =
    rw (
      same i 0 (omega arith),
      blocks_same half (2 * i) old new (λ j n e. same j (suc n) (omega (arith, up_last n j, e))),
      blocks_same half (2 * i + 1) old new (λ j n e. same j (suc n) (omega (arith, up_last n j, e))),
    ) refl

-- a node is written that is not allocated as one block, before or after
pub blocks_kept : (k i : ℕ) (nodes : List ℕ) (p v : ℕ) → p < length nodes → 0 < node_at nodes p → 0 < v → blocks_under k i (set nodes p v) ≡ blocks_under k i nodes
blocks_kept k i nodes p v l old new = blocks_same k i nodes (set nodes p v) (λ j n e. elim (cases_eq j p) [
  | inl f ↦ rw (f, get_or-set_same nodes p v 0 l, ne_eqb v 0 (λ z. omega (arith, z, new)), ne_eqb (node_at nodes p) 0 (λ z. omega (arith, z, old))) refl
  | inr f ↦ rw (get_or-set_other nodes p j v 0 f) refl
])

-- a node is written that is under the one half: the blocks of the other stay
pub other_half : (k i : ℕ) (nodes : List ℕ) (j d a v : ℕ) → j / 2 ^ d ≡ a → a / 2 ≡ i / 2 → 0 < a → 0 < i → a ≢ i → blocks_under k i (set nodes j v) ≡ blocks_under k i nodes
other_half k i nodes j d a v under buddies some other differ =
    blocks_same k i nodes (set nodes j v) (λ m n e. ap (λ x. eqb x 0) (get_or-set_other nodes j m v 0 (λ f.
    differ (halves_apart j d n a i under (ap (λ x. x / 2 ^ n) (sym f) ∙ e) buddies some other))))

-- so where a node of one half is written, the blocks allocated in the other stay
module _ (half i d : ℕ) (nodes : List ℕ) (j v : ℕ) (some : 0 < i) (split : node_at nodes i ≡ 0 → ⊥) where
  split_still : j / 2 ^ suc d ≡ i → node_at (set nodes j v) i ≡ 0 → ⊥
  split_still over z = split (sym (get_or-set_other nodes j i v 0 (over_differs j d i over some)) ∙ z)

  pub left_written : j / 2 ^ d ≡ 2 * i → blocks_under (suc half) i (set nodes j v) ≡ blocks_under half (2 * i) (set nodes j v) ++ moved_up (2 ^ half) (blocks_under half (2 * i + 1) nodes)
  left_written e =
      rw (
        blocks_halves half i (set nodes j v) (split_still (omega (arith, up_last d j, e))),
        other_half half (2 * i + 1) nodes j d (2 * i) v e (omega arith) (omega (arith, some)) (omega arith) (λ f. omega (arith, f)),
      ) refl

  pub right_written : j / 2 ^ d ≡ 2 * i + 1 → blocks_under (suc half) i (set nodes j v) ≡ blocks_under half (2 * i) nodes ++ moved_up (2 ^ half) (blocks_under half (2 * i + 1) (set nodes j v))
  right_written e =
      rw (
        blocks_halves half i (set nodes j v) (split_still (omega (arith, up_last d j, e))),
        other_half half (2 * i) nodes j d (2 * i + 1) v e (omega arith) (omega arith) (omega (arith, some)) (λ f. omega (arith, f)),
      ) refl

-- a node is written that comes before: so it is not under this one
pub later_kept : (k i : ℕ) (nodes : List ℕ) (j v : ℕ) → j < i → blocks_under k i (set nodes j v) ≡ blocks_under k i nodes
later_kept k i nodes j v l =
    blocks_same k i nodes (set nodes j v) (λ m n e. ap (λ x. eqb x 0) (get_or-set_other nodes j m v 0 (λ f. omega (arith, f, e, l, div-le_self m (2 ^ n)))))

-- ---- the rule
right_same : (k i : ℕ) (old new : List ℕ) → node_at new i ≡ node_at old i → node_at new (2 * i) ≡ node_at old (2 * i) → node_at new (2 * i + 1) ≡ node_at old (2 * i + 1)
    → IsRight k i old → IsRight k i new
right_same zero i old new e l r h = rw e h
right_same (suc half) i old new e l r h = rw (e, l, r) h

-- the node of a place keeps to the rule at whatever height it is said to have
right_at : (height k m p i : ℕ) (nodes : List ℕ) → HasHeight height k p → IsRight k p nodes → HasHeight height m i → i ≡ p → IsRight m i nodes
right_at height k m p i nodes place new q e = rw (e, ← place_height place (rw e at q)) new

-- where node p is written and keeps to the rule, just the one over it may not
pub tree_set : (height k p but v : ℕ) (nodes : List ℕ) → IsTreeBut height but nodes → HasHeight height k p → ((i : ℕ) → 0 < i → i ≢ p → i ≢ but)
    → IsRight k p (set nodes p v) → IsTreeBut height (p / 2) (set nodes p v)
tree_set height k p but v nodes tree place others new = record {
  low = tree.low;
  len = length-set nodes p v ∙ tree.len;
  roof = get_or-set_other nodes p 0 v 0 (λ e. omega (arith, e, place_pos place)) ∙ tree.roof;
  right =
      λ m i q n. elim (cases_eq i p) [
        | inl e ↦ right_at height k m p i (set nodes p v) place new q e
        | inr e ↦
            right_same m i nodes (set nodes p v) (get_or-set_other nodes p i v 0 e)
            (get_or-set_other nodes p (2 * i) v 0 (λ f. n (omega (arith, f))))
            (get_or-set_other nodes p (2 * i + 1) v 0 (λ f. n (omega (arith, f))))
            (tree.right m i q (others i (place_pos q) e))
      ];
}

-- where that node keeps to the rule, all do
pub tree_whole : (height k p : ℕ) (nodes : List ℕ) → IsTreeBut height p nodes → HasHeight height k p → IsRight k p nodes → IsTree height nodes
tree_whole height k p nodes tree place new = record {
  low = tree.low;
  len = tree.len;
  roof = tree.roof;
  right = λ m i q n. elim (cases_eq i p) [ inl e ↦ right_at height k m p i nodes place new q e | inr e ↦ tree.right m i q e ];
}

-- ---- a run is marked as allocated, or as free again
module _ (height k p : ℕ) (nodes : List ℕ) (tree : IsTree height nodes) (place : HasHeight height k p) where
  written : (v : ℕ) → node_at (set nodes p v) p ≡ v
  written v = get_or-set_same nodes p v 0 (omega (arith, tree.len, place_below place))

  -- the halves of a run that was free, or allocated as one block, are free still
  halves_free : (v half : ℕ) → HasHeight height (suc half) p → (node_at nodes p ≡ suc half + 2) ⊎ (node_at nodes p ≡ 0)
      → (node_at (set nodes p v) (2 * p) ≡ half + 2) × (node_at (set nodes p v) (2 * p + 1) ≡ half + 2)
  halves_free v half q is =
      rw (get_or-set_other nodes p (2 * p) v 0 (λ f. omega (arith, f, place_pos q)), get_or-set_other nodes p (2 * p + 1) v 0 (λ f. omega (arith, f)))
      (free_halves height nodes tree half p q is)

  pub clear_marked : (v : ℕ) → IsClear p nodes → IsClear p (set nodes p v)
  clear_marked v c n l = omega (arith, c n l, get_or-set_other nodes p (p / 2 ^ suc n) v 0 (over_differs p n (p / 2 ^ suc n) refl l))

  marked : (v : ℕ) → IsRight k p (set nodes p v) → IsTreeBut height (p / 2) (set nodes p v)
  marked v new = tree_set height k p 0 v nodes tree place (λ i some n e. omega (arith, some, e)) new

  lent_is_right : (h : ℕ) → HasHeight height h p → node_at nodes p ≡ h + 2
      → IsRight h p (set nodes p 0)
  lent_is_right zero q e = inl (written 0)
  lent_is_right (suc half) q e =
      let f = halves_free 0 half q (inl e) in inl (record { lent = written 0; left_free = f.0; right_free = f.1 })

  pub marked_lent : node_at nodes p ≡ k + 2 → IsTreeBut height (p / 2) (set nodes p 0)
  marked_lent e = marked 0 (lent_is_right k place e)

  free_is_right : (h : ℕ) → HasHeight height h p → node_at nodes p ≡ 0 → IsRight h p (set nodes p (h + 2))
  free_is_right zero q e = inr (written (0 + 2))
  free_is_right (suc half) q e =
      let v = suc half + 2 in
      let f = halves_free v half q (inr e) in
      inr (written v ∙ sym (parent_free half (node_at (set nodes p v) (2 * p)) (node_at (set nodes p v) (2 * p + 1)) f.0 f.1))

  pub marked_free : node_at nodes p ≡ 0 → IsTreeBut height (p / 2) (set nodes p (k + 2))
  marked_free e = marked (k + 2) (free_is_right k place e)
