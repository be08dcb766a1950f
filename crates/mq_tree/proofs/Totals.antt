-- What a whole tree keeps beside its nodes: how many pages are free.
use Rattle.std.proofs.Common.{◌≡◌, ℕ, ◌+◌, ◌^◌, ◌≤◌, ◌<◌, refl, sym, ap, ◌∙◌, arith, true, List, [], ◌++◌, length, take, drop, Some, None}
use Rattle.std.proofs.lemmas.Bool.{lt-leb}
use Rattle.std.proofs.lemmas.List.{take_at}
use Rattle.mq_tree.specs.Blocks.{PlainBlock, block}
use Rattle.mq_tree.specs.LentSet.{inserted, left, is_lent, free_pages}
use Rattle.mq_tree.specs.Fit.{fit, largest}
use Rattle.mq_tree.specs.Nodes.{node_at, largest_under}
use Rattle.mq_tree.specs.Trees.{lent_blocks, IsTree, IsTreeOf, IsOrderTree}
use Rattle.mq_tree.proofs.Powers.{pow_le}
use Rattle.mq_tree.proofs.FreePages.{free_joined, free_left, free_sum, new_free}
use Rattle.mq_tree.proofs.Heap.{at_root}
use Rattle.mq_tree.proofs.Largest.{largest_is}
use Rattle.mq_tree.proofs.Halves.{none_is}
use Rattle.mq_tree.proofs.Trees.{room_is, blocks_lent_set}

-- the nodes of a vector whose slice was rewritten
pub refilled : {height len : ℕ} {items new : List ℕ} → IsTree height items → len ≡ length items → IsTree height new → take len (new ++ drop (length new) items) ≡ new
refilled {len = len} {items = items} {new = new} t l u = take_at new (drop (length new) items) len (omega (arith, l, t.len, u.len))

pub seen : {height len : ℕ} {items new : List ℕ} {lent : List PlainBlock} → IsTree height items → len ≡ length items → IsTreeOf height new lent → lent_blocks height (take len (new ++ drop (length new) items)) ≡ lent
seen {height = height} t l u = ap (lent_blocks height) (refilled t l u.tree) ∙ u.lent_is

-- ---- what the root determines
pub root_largest : {height : ℕ} {nodes : List ℕ} → IsTree height nodes → largest_under (node_at nodes 1) ≡ largest height (lent_blocks height nodes)
root_largest {height = height} {nodes = nodes} t =
    sym (largest_is height (lent_blocks height nodes) (node_at nodes 1) (room_is height nodes t height 1 (at_root height)) (largest height (lent_blocks height nodes)) refl)

pub root_full : {height : ℕ} {nodes : List ℕ} → IsTree height nodes → (order : ℕ) → node_at nodes 1 < order + 2 → fit height (lent_blocks height nodes) order ≡ None
root_full {height = height} {nodes = nodes} t order l =
    none_is (fit height (lent_blocks height nodes) order) (room_is height nodes t height 1 (at_root height) order ∙ lt-leb (order + 2) (node_at nodes 1) l)

-- ---- how many pages are free
module _ {height free : ℕ} {old new : List ℕ} (w : IsOrderTree height free old)
    (order start : ℕ) where
  pub lent_free : fit height (lent_blocks height old) order ≡ Some start → IsTreeOf height new (inserted (block start order) (lent_blocks height old))
      → free ≡ free_pages height (lent_blocks height new) + 2 ^ order
  lent_free found t = rw (t.lent_is, w.free_is) (free_joined height (lent_blocks height old) order start found)

  pub given_free : is_lent (block start order) (lent_blocks height old) ≡ true → IsTreeOf height new (left (block start order) (lent_blocks height old))
      → free_pages height (lent_blocks height new) ≡ free + 2 ^ order
  given_free lent t = rw (t.lent_is, w.free_is) (free_left height (lent_blocks height old) (block start order) (blocks_lent_set height 1 old) lent)

-- no more pages are free than there are
pub free_bound : (height : ℕ) (nodes : List ℕ) → height ≤ 10 → free_pages height (lent_blocks height nodes) ≤ 2 ^ 10
free_bound height nodes l = omega (arith, free_sum height (lent_blocks height nodes) (blocks_lent_set height 1 nodes), pow_le height 10 l)

-- ---- a new tree
pub new_whole : (height pages len : ℕ) (items new : List ℕ) → pages ≡ 2 ^ height → len ≡ length items → length new ≡ length items → IsTreeOf height new []
    → IsOrderTree height pages (take len (new ++ drop (length new) items))
new_whole height pages len items new e l same t =
    rw (take_at new (drop (length new) items) len (omega (arith, l, same)))
    (record { tree = t.tree; free_is = e ∙ sym (new_free height) ∙ ap (free_pages height) (sym t.lent_is) })
