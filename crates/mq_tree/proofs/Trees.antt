-- A tree of nodes: the blocks allocated in it, and which orders fit by its nodes.
use Rattle.std.proofs.Common.{◌≡◌, ℕ, ◌+◌, ◌*◌, ◌/◌, ◌^◌, ◌<◌, ◌≤◌, zero, suc, refl, sym, ◌∙◌, arith, inl, inr, ◌⊎◌, true, false, ◌||◌, List, [], ◌∷◌, ◌++◌, Option, Some, None, leb, eqb, zero-add}
use Rattle.std.specs.Option.{is_some, option_or, option_map}
use Rattle.std.proofs.lemmas.Bool.{cases_lt, cases_eq, cond-true, cond-false, cond_both, cases_order, leb-true, le-leb, lt-leb, eq-eqb, ne_eqb}
use Rattle.std.proofs.lemmas.Bool.Decides.{nat_tests}
use Rattle.mq_tree.specs.Blocks.{PlainBlock, block, moved_up}
use Rattle.mq_tree.specs.LentSet.{IsLentSet}
use Rattle.mq_tree.specs.Fit.{fit}
use Rattle.mq_tree.specs.Nodes.{node_at, parent, IsRight}
use Rattle.mq_tree.specs.Trees.{blocks_under, HasHeight, IsTree, IsTreeBut}
use Rattle.mq_tree.proofs.Powers.{pow_le}
use Rattle.mq_tree.proofs.Fits.{fit_empty, fit_over, fit_lent, fit_whole}
use Rattle.mq_tree.proofs.Halving.{fit_halves}
use Rattle.mq_tree.proofs.Kept.{IsLentSet-nil, IsLentSet-whole, IsLentSet-halves}
use Rattle.mq_tree.proofs.Heap.{up_first, up_last, up_none, one_of_halves, to_left, to_right, to_parent, place_pos}

-- ---- the node over two halves
pub parent_pos : (half l r : ℕ) → 0 < parent half l r
parent_pos half l r = grind (arith, nat_tests)

pub parent_free : (half l r : ℕ) → l ≡ half + 2 → r ≡ half + 2 → parent half l r ≡ suc half + 2
parent_free half l r p q = grind (arith, nat_tests)

pub parent_whole : (half l r : ℕ) → l ≤ half + 2 → r ≤ half + 2 → parent half l r ≡ suc half + 2 → (l ≡ half + 2) × (r ≡ half + 2)
parent_whole half l r p q e = grind (arith, nat_tests)

parent_bounded : (half l r : ℕ) → l ≤ half + 2 → r ≤ half + 2 → parent half l r ≤ suc half + 2
parent_bounded half l r p q = grind (arith, nat_tests)

parent_room : (half l r k : ℕ) → k ≤ half → l ≤ half + 2 → r ≤ half + 2 → leb (k + 2) (parent half l r) ≡ (leb (k + 2) l || leb (k + 2) r)
parent_room half l r k low p q = grind (arith, nat_tests)

parent_right : (half l r k : ℕ) → k ≤ half → l ≤ half + 2 → r ≤ half + 2 → k + 2 ≤ parent half l r → leb (k + 2) l ≡ false → k + 2 ≤ r
parent_right half l r k low p q room full = grind (arith, nat_tests)

-- ---- the allocated blocks
module _ (half i : ℕ) (nodes : List ℕ) where
  pub blocks_lent : node_at nodes i ≡ 0 → blocks_under half i nodes ≡ block 0 half ∷ []
  unfolding blocks_under
  blocks_lent e = elim half as (λ h. blocks_under h i nodes ≡ block 0 h ∷ []) [
    | zero ↦ cond-true (eqb (node_at nodes i) 0) _ _ (eq-eqb (node_at nodes i) 0 e)
    | suc h ↦ cond-true (eqb (node_at nodes i) 0) _ _ (eq-eqb (node_at nodes i) 0 e)
  ]

  pub blocks_leaf : (node_at nodes i ≡ 0 → ⊥) → blocks_under 0 i nodes ≡ []
  unfolding blocks_under
  blocks_leaf n = cond-false (eqb (node_at nodes i) 0) _ _ (ne_eqb (node_at nodes i) 0 n)

  pub blocks_halves : (node_at nodes i ≡ 0 → ⊥) → blocks_under (suc half) i nodes ≡ blocks_under half (2 * i) nodes ++ moved_up (2 ^ half) (blocks_under half (2 * i + 1) nodes)
  unfolding blocks_under
  blocks_halves n = cond-false (eqb (node_at nodes i) 0) _ _ (ne_eqb (node_at nodes i) 0 n)

-- the blocks under a node are a lent set
pub blocks_lent_set : (k i : ℕ) (nodes : List ℕ) → IsLentSet k (blocks_under k i nodes)
unfolding blocks_under
blocks_lent_set zero i nodes = cond_both (eqb (node_at nodes i) 0) _ _ (IsLentSet 0) (λ _. IsLentSet-whole 0) (λ _. IsLentSet-nil 0)
blocks_lent_set (suc half) i nodes =
    cond_both (eqb (node_at nodes i) 0) _ _ (IsLentSet (suc half)) (λ _. IsLentSet-whole (suc half))
    (λ _. IsLentSet-halves half (blocks_under half (2 * i) nodes) (blocks_under half (2 * i + 1) nodes) (blocks_lent_set half (2 * i) nodes) (blocks_lent_set half (2 * i + 1) nodes))

-- ---- what fits
is_some-or : (a b : Option ℕ) (c : ℕ) → is_some (option_or a (option_map (λ s. c + s) b)) ≡ (is_some a || is_some b)
is_some-or None None c = refl
is_some-or None (Some b) c = refl
is_some-or (Some a) b c = refl

not_some : (o : Option ℕ) → ((s : ℕ) → o ≡ Some s → ⊥) → is_some o ≡ false
not_some None h = refl
not_some (Some s) h = absurd (h s refl)

free_fits : (height k : ℕ) → is_some (fit height [] k) ≡ leb (k + 2) (height + 2)
free_fits height k = elim (cases_lt height k) [
  | inl l ↦ rw (fit_over height [] k l, lt-leb (k + 2) (height + 2) (omega arith)) refl
  | inr l ↦ rw (fit_empty height k (pow_le k height l), le-leb (k + 2) (height + 2) (omega arith)) refl
]

halves_empty : (c : ℕ) (xs ys : List PlainBlock) → xs ++ moved_up c ys ≡ [] → (xs ≡ []) × (ys ≡ [])
halves_empty c [] [] e = (refl, refl)
halves_empty c [] (y ∷ ys) e = absurd (cc)
halves_empty c (x ∷ xs) ys e = absurd (cc)

-- ---- a tree
-- a node after the one that may break the rule is at most that of a free run
pub bounded_over : (height but : ℕ) (nodes : List ℕ) → IsTreeBut height but nodes → (k i : ℕ) → HasHeight height k i → but < i → node_at nodes i ≤ k + 2
bounded_over height but nodes tree zero i p l = elim (tree.right zero i p (λ e. omega (arith, e, l))) [ inl e ↦ omega arith | inr e ↦ omega arith ]
bounded_over height but nodes tree (suc half) i p l = elim (tree.right (suc half) i p (λ e. omega (arith, e, l))) [
  | inl e ↦ omega (arith, e.lent)
  | inr e ↦
      rw e (parent_bounded half (node_at nodes (2 * i)) (node_at nodes (2 * i + 1)) (bounded_over height but nodes tree half (2 * i) (to_left height half i p) (omega (arith, l)))
      (bounded_over height but nodes tree half (2 * i + 1) (to_right height half i p) (omega (arith, l))))
]

module _ (height : ℕ) (nodes : List ℕ) (tree : IsTree height nodes) where
  pub rule : (k i : ℕ) → HasHeight height k i → IsRight k i nodes
  rule k i p = tree.right k i p (λ e. omega (arith, e, place_pos p))

  -- a node is at most that of a free run
  pub bounded : (k i : ℕ) → HasHeight height k i → node_at nodes i ≤ k + 2
  bounded k i p = bounded_over height 0 nodes tree k i p (place_pos p)

  -- the halves of a node that is free, or allocated as one block, are free
  pub free_halves : (half i : ℕ) → HasHeight height (suc half) i → (node_at nodes i ≡ suc half + 2) ⊎ (node_at nodes i ≡ 0)
      → (node_at nodes (2 * i) ≡ half + 2) × (node_at nodes (2 * i + 1) ≡ half + 2)
  free_halves half i p is = elim (rule (suc half) i p) [
    | inl e ↦ (e.left_free, e.right_free)
    | inr e ↦ elim is [
      | inl w ↦ parent_whole half (node_at nodes (2 * i)) (node_at nodes (2 * i + 1)) (bounded half (2 * i) (to_left height half i p)) (bounded half (2 * i + 1) (to_right height half i p)) (sym e ∙ w)
      | inr z ↦ absurd (omega (arith, e, z, parent_pos half (node_at nodes (2 * i)) (node_at nodes (2 * i + 1))))
    ]
  ]

  -- nothing is allocated under a free node
  pub free_blocks : (k i : ℕ) → HasHeight height k i → node_at nodes i ≡ k + 2 → blocks_under k i nodes ≡ []
  free_blocks zero i p e = blocks_leaf zero i nodes (λ z. omega (arith, z, e))
  free_blocks (suc half) i p e =
      let h = free_halves half i p (inl e) in
      rw (
        blocks_halves half i nodes (λ z. omega (arith, z, e)),
        free_blocks half (2 * i) (to_left height half i p) h.0,
        free_blocks half (2 * i + 1) (to_right height half i p) h.1,
      ) refl

  -- a half of a node that is free, or allocated as one block
  half_of : (half i : ℕ) → HasHeight height (suc half) (i / 2) → (node_at nodes (i / 2) ≡ suc half + 2) ⊎ (node_at nodes (i / 2) ≡ 0) → node_at nodes i ≡ half + 2
  half_of half i p is =
      let h = free_halves half (i / 2) p is in elim (one_of_halves i) [ inl e ↦ rw e h.0 | inr e ↦ rw e h.1 ]

  -- each node under a free one, or under one that is allocated as one block, is free
  pub free_under : (k i n h : ℕ) → h ≡ suc (n + k) → HasHeight height k i → h ≤ height → (node_at nodes (i / 2 ^ suc n) ≡ h + 2) ⊎ (node_at nodes (i / 2 ^ suc n) ≡ 0) → node_at nodes i ≡ k + 2
  free_under k i zero h e p l is = half_of k i (to_parent p (omega arith)) (rw (e, zero-add k, up_last 0 i, up_none i) at is)
  free_under k i (suc n) h e p l is =
      let over = to_parent p (omega arith) in
      half_of k i over (inl (free_under (suc k) (i / 2) n h (omega arith) over l (rw (up_first (suc n) i) at is)))

  pub free_under_lent : (k i n : ℕ) → HasHeight height k i → suc n + k ≤ height → node_at nodes (i / 2 ^ suc n) ≡ 0 → node_at nodes i ≡ k + 2
  free_under_lent k i n p l e = free_under k i n (suc (n + k)) refl p (omega arith) (inr e)

  room_free : (k i : ℕ) → HasHeight height k i → (o : ℕ) → node_at nodes i ≡ k + 2 → is_some (fit k (blocks_under k i nodes) o) ≡ leb (o + 2) (node_at nodes i)
  room_free k i p o e = rw (free_blocks k i p e, e) (free_fits k o)

  room_lent : (k i o : ℕ) → node_at nodes i ≡ 0 → is_some (fit k (blocks_under k i nodes) o) ≡ leb (o + 2) (node_at nodes i)
  room_lent k i o e = rw (blocks_lent k i nodes e, fit_lent k o, lt-leb (o + 2) (node_at nodes i) (omega arith)) refl

  -- where nothing is allocated the node is free
  empty_is_free : (k i : ℕ) → HasHeight height k i → blocks_under k i nodes ≡ [] → is_some (fit k (blocks_under k i nodes) k) ≡ leb (k + 2) (node_at nodes i) → node_at nodes i ≡ k + 2
  empty_is_free k i p none room =
      let fits : leb (k + 2) (node_at nodes i) ≡ true = rw (← room, none, fit_empty k k (omega arith)) refl in
      omega (arith, bounded k i p, leb-true (k + 2) (node_at nodes i) fits)

  -- what fits is what is at most the node's order
  pub room_is : (k i : ℕ) → HasHeight height k i → (o : ℕ) → is_some (fit k (blocks_under k i nodes) o) ≡ leb (o + 2) (node_at nodes i)
  room_is zero i p o = elim (rule zero i p) [ inl e ↦ room_lent zero i o e | inr e ↦ room_free zero i p o e ]
  room_is (suc half) i p o =
      let l = to_left height half i p in
      let r = to_right height half i p in
      let xs = blocks_under half (2 * i) nodes in
      let ys = blocks_under half (2 * i + 1) nodes in
      let a = node_at nodes (2 * i) in
      let b = node_at nodes (2 * i + 1) in
      elim (rule (suc half) i p) [
        | inl e ↦ room_lent (suc half) i o e.lent
        | inr is ↦
            let split = blocks_halves half i nodes (λ z. omega (arith, is, z, parent_pos half a b)) in
            elim (cases_order o (suc half)) [
              | inl same ↦ elim (cases_eq (node_at nodes i) (suc half + 2)) [
                | inl e ↦ room_free (suc half) i p o e
                | inr n ↦
                    rw (same, lt-leb (suc half + 2) (node_at nodes i) (omega (arith, n, bounded (suc half) i p)))
                    (not_some (fit (suc half) (blocks_under (suc half) i nodes) (suc half)) (λ s found.
                    let whole = fit_whole (suc half) (blocks_under (suc half) i nodes) s (blocks_lent_set (suc half) i nodes).in_arena found in
                    let none = halves_empty (2 ^ half) xs ys (sym split ∙ whole) in
                    n (is ∙ parent_free half a b (empty_is_free half (2 * i) l none.0 (room_is half (2 * i) l half))
                    (empty_is_free half (2 * i + 1) r none.1 (room_is half (2 * i + 1) r half)))))
              ]
              | inr q ↦ elim q [
                | inl low ↦
                    rw (
                      split,
                      fit_halves half xs ys o (omega arith) (blocks_lent_set half (2 * i) nodes).in_arena (fit half xs o) (fit half ys o) refl refl,
                      is_some-or (fit half xs o) (fit half ys o) (2 ^ half),
                      room_is half (2 * i) l o,
                      room_is half (2 * i + 1) r o,
                      is,
                      parent_room half a b o (omega arith) (bounded half (2 * i) l) (bounded half (2 * i + 1) r),
                    ) refl
                | inr high ↦ rw (fit_over (suc half) (blocks_under (suc half) i nodes) o high, lt-leb (o + 2) (node_at nodes i) (omega (arith, high, bounded (suc half) i p))) refl
              ]
            ]
      ]

  -- where the left half has no room for an order, the right one has
  pub right_room : (half i : ℕ) → HasHeight height (suc half) i → (o : ℕ) → o ≤ half → o + 2 ≤ node_at nodes i → leb (o + 2) (node_at nodes (2 * i)) ≡ false → o + 2 ≤ node_at nodes (2 * i + 1)
  right_room half i p o low room full = elim (rule (suc half) i p) [
    | inl e ↦ absurd (omega (arith, e.lent, room))
    | inr e ↦ parent_right half (node_at nodes (2 * i)) (node_at nodes (2 * i + 1)) o low (bounded half (2 * i) (to_left height half i p)) (bounded half (2 * i + 1) (to_right height half i p)) (omega (arith, e, room)) full
  ]
