-- The way up: from an open tree to one in which the node over has the parent of its halves.
use Rattle.std.proofs.Common.{◌≡◌, ◌≢◌, ℕ, ◌+◌, ◌*◌, ◌/◌, ◌^◌, ◌<◌, ◌≤◌, ◌⊎◌, suc, refl, sym, ap, ◌∙◌, arith, inl, inr, List, length, set, max, subst}
use Rattle.std.proofs.lemmas.Bool.{cases_lt}
use Rattle.std.proofs.lemmas.Bool.Decides.{nat_tests}
use Rattle.std.proofs.lemmas.List.{get_or-set_same, get_or-set_other}
use Rattle.mq_tree.specs.Nodes.{node_at, parent}
use Rattle.mq_tree.specs.Trees.{lent_blocks, HasHeight, IsTree, IsTreeBut, IsOpen, IsFreed, IsParted}
use Rattle.mq_tree.proofs.Heap.{up_first, up_none, one_of_halves, to_parent, to_left, to_right, place_pos, place_below, root_alone, over_differs}
use Rattle.mq_tree.proofs.Trees.{parent_pos, parent_free, bounded_over}
use Rattle.mq_tree.proofs.Changes.{blocks_kept, tree_set, tree_whole}

-- ---- the node over two halves that are not both free
parent_parted : (k l r : ℕ) → (l ≡ k + 2 → r ≢ k + 2) → parent k l r ≡ max (max l 1) r
parent_parted k l r n = grind (arith, nat_tests)

parent_parted_right : (k l r : ℕ) → (r ≡ k + 2 → l ≢ k + 2) → parent k l r ≡ max (max r 1) l
parent_parted_right k l r n = grind (arith, nat_tests)

-- a node and its buddy
buddies : (i j : ℕ) → j / 2 ≡ i / 2 → j ≢ i → ((i ≡ 2 * (i / 2)) × (j ≡ 2 * (i / 2) + 1)) ⊎ ((i ≡ 2 * (i / 2) + 1) × (j ≡ 2 * (i / 2)))
buddies i j e n = elim (one_of_halves i) [
  | inl l ↦ inl (l, elim (one_of_halves j) [ inl m ↦ absurd (n (omega (arith, l, m, e))) | inr m ↦ omega (arith, m, e) ])
  | inr l ↦ inr (l, elim (one_of_halves j) [ inl m ↦ omega (arith, m, e) | inr m ↦ absurd (n (omega (arith, l, m, e))) ])
]

-- ---- one step up
module _ {height k i : ℕ} {nodes : List ℕ} (o : IsOpen height k i nodes) (some : 1 < i) where
  low : k < height
  low = elim (cases_lt k height) [
    | inl l ↦ l
    | inr l ↦
        let e : k ≡ height = omega (arith, l, o.place.depth_is) in
        absurd (omega (arith, some, root_alone (subst (λ h. HasHeight height h i) e o.place)))
  ]

  pub place_over : HasHeight height (suc k) (i / 2)
  place_over = to_parent o.place low

  halves_in : 2 * (i / 2) + 1 < length nodes
  halves_in = omega (arith, o.tree.len, place_below (to_right height k (i / 2) place_over))

  -- where the node over has the parent of its halves already, the tree is whole
  stays : node_at nodes (i / 2) ≡ parent k (node_at nodes (2 * (i / 2))) (node_at nodes (2 * (i / 2) + 1)) → IsTree height nodes
  stays e = tree_whole height (suc k) (i / 2) nodes o.tree place_over (inr e)

  module _ (v : ℕ) (e : v ≡ parent k (node_at nodes (2 * (i / 2))) (node_at nodes (2 * (i / 2) + 1))) where
    pub over_open : IsOpen height (suc k) (i / 2) (set nodes (i / 2) v)
    over_open =
        let at = i / 2 in
        let at_in : at < length nodes = omega (arith, halves_in) in
        let left : node_at (set nodes at v) (2 * at) ≡ node_at nodes (2 * at) = get_or-set_other nodes at (2 * at) v 0 (λ f. omega (arith, f, place_pos place_over)) in
        let right : node_at (set nodes at v) (2 * at + 1) ≡ node_at nodes (2 * at + 1) = get_or-set_other nodes at (2 * at + 1) v 0 (λ f. omega (arith, f)) in
        record {
          place = place_over;
          clear = λ n l.
              rw (get_or-set_other nodes at (at / 2 ^ suc n) v 0 (over_differs at n (at / 2 ^ suc n) refl l), ← up_first (suc n) i)
              (o.clear (suc n) (omega (arith, up_first (suc n) i, l)));
          tree = tree_set height (suc k) at at v nodes o.tree place_over (λ i l n. n) (inr (rw (get_or-set_same nodes at v 0 at_in, left, right) e));
        }

    pub over_lent : lent_blocks height (set nodes (i / 2) v) ≡ lent_blocks height nodes
    over_lent =
        blocks_kept height 1 nodes (i / 2) v (omega (arith, halves_in))
        (rw (up_first 0 i, up_none (i / 2)) at (o.clear 0 (omega (arith, up_first 0 i, up_none (i / 2), place_pos place_over))))
        (omega (arith, e, parent_pos k (node_at nodes (2 * (i / 2))) (node_at nodes (2 * (i / 2) + 1))))

    pub over_value : node_at (set nodes (i / 2) v) (i / 2) ≡ v
    over_value = get_or-set_same nodes (i / 2) v 0 (omega (arith, halves_in))

  -- by the node and its buddy
  module _ (j : ℕ) (over : j / 2 ≡ i / 2) (other : j ≢ i) where
    buddies_in : (i < length nodes) × (j < length nodes)
    buddies_in = elim (buddies i j over other) [ inl e ↦ (omega (arith, e, halves_in), omega (arith, e, halves_in)) | inr e ↦ (omega (arith, e, halves_in), omega (arith, e, halves_in)) ]

    pub parent_of_parted : (node_at nodes i ≡ k + 2 → node_at nodes j ≢ k + 2)
        → max (max (node_at nodes i) 1) (node_at nodes j) ≡ parent k (node_at nodes (2 * (i / 2))) (node_at nodes (2 * (i / 2) + 1))
    parent_of_parted n = elim (buddies i j over other) [
      | inl e ↦ rw (← e.1, ← e.0) (sym (parent_parted k (node_at nodes i) (node_at nodes j) n))
      | inr e ↦ rw (← e.0, ← e.1) (sym (parent_parted_right k (node_at nodes j) (node_at nodes i) n))
    ]

    parent_of_free : node_at nodes i ≡ k + 2 → node_at nodes j ≡ k + 2
        → k + 3 ≡ parent k (node_at nodes (2 * (i / 2))) (node_at nodes (2 * (i / 2) + 1))
    parent_of_free p q = elim (buddies i j over other) [
      | inl e ↦ rw (← e.1, ← e.0) (omega (arith, parent_free k (node_at nodes i) (node_at nodes j) p q))
      | inr e ↦ rw (← e.0, ← e.1) (omega (arith, parent_free k (node_at nodes j) (node_at nodes i) q p))
    ]

    -- no half is over that of a free run
    both_bounded : (node_at nodes i ≤ k + 2) × (node_at nodes j ≤ k + 2)
    both_bounded =
        let left = bounded_over height (i / 2) nodes o.tree k (2 * (i / 2)) (to_left height k (i / 2) place_over) (omega (arith, place_pos place_over)) in
        let right = bounded_over height (i / 2) nodes o.tree k (2 * (i / 2) + 1) (to_right height k (i / 2) place_over) (omega arith) in
        elim (buddies i j over other) [ inl e ↦ (rw e.0 left, rw e.1 right) | inr e ↦ (rw e.0 right, rw e.1 left) ]

pub opened_in : {height k i : ℕ} {nodes : List ℕ} → IsOpen height k i nodes → i < length nodes
opened_in o = omega (arith, o.tree.len, place_below o.place)

-- ---- node 0, over the root
module _ {height k i : ℕ} {nodes : List ℕ} (o : IsOpen height k i nodes) where
  -- no free run is as large
  below_roof : k + 2 < node_at nodes 0
  below_roof = omega (arith, o.tree.roof, o.tree.low, o.place.depth_is)

  node_bounded : node_at nodes i ≤ k + 2
  node_bounded = bounded_over height (i / 2) nodes o.tree k i o.place (omega (arith, place_pos o.place))

  pub half_in : i / 2 < length nodes
  half_in = omega (arith, opened_in o)

  module _ (j : ℕ) (over : j / 2 ≡ i / 2) (other : j ≢ i) where
    -- the root is beside node 0
    at_root : i ≤ 1 → j ≡ 0
    at_root l = omega (arith, l, over, other, place_pos o.place)

    pub buddy_in : j < length nodes
    buddy_in = elim (cases_lt 1 i) [ inl l ↦ (buddies_in o l j over other).1 | inr l ↦ omega (arith, at_root l, opened_in o) ]

-- at the root all is closed
at_top : {height k i : ℕ} {nodes : List ℕ} → IsOpen height k i nodes → i ≤ 1 → IsTree height nodes
at_top {height = height} {i = i} {nodes = nodes} o l = let none : i / 2 ≡ 0 = omega (arith, l) in subst (λ n. IsTreeBut height n nodes) none o.tree

-- ---- the nodes are closed up to node i, of which the node over it takes this one
pub record Closes (height i node : ℕ) (old nodes : List ℕ) : Type 0 where
  pub parted : IsParted height i nodes
  pub node_is : node ≡ max (node_at nodes i) 1
  pub lent_is : lent_blocks height nodes ≡ lent_blocks height old

module _ {height i node : ℕ} {old nodes : List ℕ} (c : Closes height i node old nodes) (j : ℕ) (over : j / 2 ≡ i / 2) (other : j ≢ i) where
  abbrev v : ℕ
  v = max node (node_at nodes j)

  is_parent : 1 < i → v ≡ parent c.parted.level (node_at nodes (2 * (i / 2))) (node_at nodes (2 * (i / 2) + 1))
  is_parent some = ap (λ x. max x (node_at nodes j)) c.node_is ∙ parent_of_parted c.parted.opened some j over other (c.parted.parted j over other)

  pub closed : v ≡ node_at nodes (i / 2) → IsTree height nodes
  closed e = elim (cases_lt 1 i) [ inl some ↦ stays c.parted.opened some (omega (arith, e, is_parent some)) | inr l ↦ at_top c.parted.opened l ]

  -- over the root the way up ends
  goes_on : (v ≡ node_at nodes (i / 2) → ⊥) → 1 < i
  goes_on n = elim (cases_lt 1 i) [
    | inl some ↦ some
    | inr l ↦
        let z = at_root c.parted.opened j over other l in
        let top : i / 2 ≡ 0 = omega (arith, l) in
        let roof : max node (node_at nodes 0) ≡ node_at nodes 0 = omega (arith, c.node_is, below_roof c.parted.opened, node_bounded c.parted.opened) in
        absurd (n (rw (z, top) roof))
  ]

  pub next_over : (v ≡ node_at nodes (i / 2) → ⊥) → Closes height (i / 2) v old (set nodes (i / 2) v)
  next_over n =
      let some = goes_on n in
      let b = both_bounded c.parted.opened some j over other in
      let value = over_value c.parted.opened some v (is_parent some) in
      record {
        parted = record {
          level = suc c.parted.level;
          opened = over_open c.parted.opened some v (is_parent some);
          parted = λ m _ _ f. absurd (omega (arith, f, value, b, c.node_is));
        };
        node_is = omega (arith, value, c.node_is);
        lent_is = over_lent c.parted.opened some v (is_parent some) ∙ c.lent_is;
      }

-- ---- a free run is joined with its buddy as long as that is free
pub record Joins (height i free : ℕ) (old nodes : List ℕ) : Type 0 where
  pub level : ℕ
  pub free_is : free ≡ level + 2
  pub freed : IsFreed height level i nodes
  pub lent_is : lent_blocks height nodes ≡ lent_blocks height old

module _ {height i free : ℕ} {old nodes : List ℕ} (c : Joins height i free old nodes) (j : ℕ) (over : j / 2 ≡ i / 2) (other : j ≢ i) where
  -- over the root nothing is free
  not_root : node_at nodes j ≡ free → 1 < i
  not_root e = elim (cases_lt 1 i) [
    | inl some ↦ some
    | inr l ↦ absurd (omega (arith, rw (at_root c.freed.opened j over other l) at e, c.free_is, below_roof c.freed.opened))
  ]

  pub joined : node_at nodes j ≡ free → Joins height (i / 2) (free + 1) old (set nodes (i / 2) (free + 1))
  joined e =
      let some = not_root e in
      let k = c.level in
      let is : free + 1 ≡ parent k (node_at nodes (2 * (i / 2))) (node_at nodes (2 * (i / 2) + 1)) =
      omega (arith, c.free_is, parent_of_free c.freed.opened some j over other c.freed.free (e ∙ c.free_is)) in
      record {
        level = suc k;
        free_is = omega (arith, c.free_is);
        freed = record { opened = over_open c.freed.opened some (free + 1) is; free = omega (arith, over_value c.freed.opened some (free + 1) is, c.free_is) };
        lent_is = over_lent c.freed.opened some (free + 1) is ∙ c.lent_is;
      }
