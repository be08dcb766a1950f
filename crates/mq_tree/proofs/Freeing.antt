-- A tree to be, of which the nodes from one on are those of free runs.
use Rattle.std.proofs.Common.{◌≡◌, ℕ, ◌+◌, ◌*◌, ◌^◌, ◌<◌, ◌≤◌, zero, suc, sym, ◌∙◌, arith, inl, inr, List, [], length, set}
use Rattle.std.proofs.lemmas.Bool.{cases_eq}
use Rattle.std.proofs.lemmas.Nat.{pow_pos}
use Rattle.std.proofs.lemmas.List.{length-set, get_or-set_same, get_or-set_other}
use Rattle.mq_tree.specs.Nodes.{node_at, IsRight}
use Rattle.mq_tree.specs.Trees.{HasHeight, IsTree, IsTreeOf, ArePagesFree}
use Rattle.mq_tree.specs.declared.limits.TheConstants.{MAX_HEIGHT}
use Rattle.mq_tree.specs.declared.node.TheConstants.{ROOF}
use Rattle.mq_tree.proofs.Heap.{to_left, to_right, place_pos, place_below, at_root, page_nodes, no_page_nodes, place_of}
use Rattle.mq_tree.proofs.Trees.{parent_free, free_blocks}

pub record AreFreeFrom (height at : ℕ) (nodes : List ℕ) : Type 0 where
  pub low : height ≤ MAX_HEIGHT
  pub len : length nodes ≡ 2 * 2 ^ height
  pub roof : node_at nodes 0 ≡ ROOF
  pub some : 0 < at
  pub free : (k i : ℕ) → HasHeight height k i → at ≤ i → node_at nodes i ≡ k + 2

module _ {height at : ℕ} {nodes : List ℕ} (f : AreFreeFrom height at nodes) (first : at ≤ 1) where
  all_right : (k i : ℕ) → HasHeight height k i → IsRight k i nodes
  all_right zero i p = inr (f.free zero i p (omega (arith, first, place_pos p)))
  all_right (suc half) i p =
      inr (f.free (suc half) i p (omega (arith, first, place_pos p))
      ∙ sym (parent_free half (node_at nodes (2 * i)) (node_at nodes (2 * i + 1))
      (f.free half (2 * i) (to_left height half i p) (omega (arith, first, place_pos p))) (f.free half (2 * i + 1) (to_right height half i p) (omega (arith, first)))))

  tree : IsTree height nodes
  tree = record { low = f.low; len = f.len; roof = f.roof; right = λ k i p n. all_right k i p }

  pub all_free : IsTreeOf height nodes []
  all_free = record { tree = tree; lent_is = free_blocks height nodes tree height 1 (at_root height) (f.free height 1 (at_root height) first) }

-- at first those of the pages are
pub pages_free : (height pages : ℕ) (nodes : List ℕ) → pages ≡ 2 ^ height → ArePagesFree height nodes → AreFreeFrom height pages (set nodes 0 ROOF)
pages_free height pages nodes e a = record {
  low = a.low;
  len = length-set nodes 0 ROOF ∙ a.len;
  roof = get_or-set_same nodes 0 ROOF 0 (omega (arith, a.len, pow_pos height));
  some = omega (arith, e, pow_pos height);
  free =
      λ k i p l.
      let page : k ≡ 0 = page_nodes p (omega (arith, e, l)) in
      get_or-set_other nodes 0 i ROOF 0 (λ z. omega (arith, z, place_pos p)) ∙ a.pages i (omega (arith, a.len, place_below p)) ∙ omega (arith, page);
}

-- one more, from its left half
module _ {height next : ℕ} {nodes : List ℕ} (f : AreFreeFrom height next nodes) (at : ℕ) (next_is : at + 1 ≡ next) (some : 0 < at) (below : at < 2 ^ height) where
  left_free : (k : ℕ) → HasHeight height k at → node_at nodes (2 * at) + 1 ≡ k + 2
  left_free zero p = absurd (omega (arith, no_page_nodes p below))
  left_free (suc half) p = omega (arith, f.free half (2 * at) (to_left height half at p) (omega (arith, next_is, some)))

  -- no node is over that of the whole arena
  pub left_small : node_at nodes (2 * at) + 1 ≤ height + 2
  left_small = let q = place_of height at some (omega (arith, below)) in omega (arith, left_free q.0 q.1, q.1.depth_is)

  pub one_more : AreFreeFrom height at (set nodes at (node_at nodes (2 * at) + 1))
  one_more = record {
    low = f.low;
    len = length-set nodes at (node_at nodes (2 * at) + 1) ∙ f.len;
    roof = get_or-set_other nodes at 0 (node_at nodes (2 * at) + 1) 0 (λ z. omega (arith, z, some)) ∙ f.roof;
    some = some;
    free =
        λ k i p l. elim (cases_eq i at) [
          | inl e ↦ rw (e, get_or-set_same nodes at (node_at nodes (2 * at) + 1) 0 (omega (arith, f.len, below))) (left_free k (rw e at p))
          | inr n ↦ get_or-set_other nodes at i (node_at nodes (2 * at) + 1) 0 n ∙ f.free k i p (omega (arith, n, l, next_is))
        ];
  }
