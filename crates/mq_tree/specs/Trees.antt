-- A tree as a list of nodes: the blocks allocated in it, and when a list is a tree.
use Rattle.std.specs.Prelude.{◌≡◌, ◌≢◌, ℕ, ◌+◌, ◌-◌, ◌*◌, ◌/◌, ◌^◌, ◌<◌, ◌≤◌, zero, suc, false, ◌==◌, List, [], ◌∷◌, ◌++◌, length, slice_set, Some, if◌then◌else◌}
use Rattle.mq_tree.specs.Blocks.{PlainBlock, block, moved_up}
use Rattle.mq_tree.specs.LentSet.{IsLentSet, inserted, is_lent, free_pages}
use Rattle.mq_tree.specs.Fit.{fit}
use Rattle.mq_tree.specs.declared.limits.TheConstants.{MAX_HEIGHT}
use Rattle.mq_tree.specs.declared.node.TheConstants.{ROOF}
use Rattle.mq_tree.specs.Nodes.{node_at, whole_free, IsRight}

-- the blocks allocated in the run of node i, of that height: the whole, or those of its halves
unfoldable pub blocks_under : ℕ → ℕ → List ℕ → List PlainBlock
blocks_under zero i nodes = if node_at nodes i == 0 then block 0 0 ∷ [] else []
blocks_under (suc half) i nodes =
    if node_at nodes i == 0 then block 0 (suc half) ∷ []
    else blocks_under half (2 * i) nodes
    ++ moved_up (2 ^ half) (blocks_under half (2 * i + 1) nodes)

-- the blocks allocated in a tree of that height
abbrev pub lent_blocks : ℕ → List ℕ → List PlainBlock
lent_blocks height nodes = blocks_under height 1 nodes

-- in a tree of that height, the run of node i has height k: so many steps up is the root
pub record HasHeight (height k i : ℕ) : Type 0 where
  pub depth : ℕ
  pub depth_is : depth + k ≡ height
  pub root_is : i / 2 ^ depth ≡ 1

-- the nodes are those of a tree of that height, which is not over the greatest one, but for the
-- rule of one
pub record IsTreeBut (height but : ℕ) (nodes : List ℕ) : Type 0 where
  pub low : height ≤ MAX_HEIGHT
  pub len : length nodes ≡ 2 * 2 ^ height
  pub roof : node_at nodes 0 ≡ ROOF
  pub right : (k i : ℕ) → HasHeight height k i → i ≢ but → IsRight k i nodes

-- the nodes are those of a tree of that height; node 0 has no rule
abbrev pub IsTree : ℕ → List ℕ → Type 0
IsTree height nodes = IsTreeBut height 0 nodes

-- the nodes are a tree in which exactly these blocks are allocated
pub record IsTreeOf (height : ℕ) (nodes : List ℕ) (lent : List PlainBlock) : Type 0 where
  pub tree : IsTree height nodes
  pub lent_is : lent_blocks height nodes ≡ lent

-- no node above node i is allocated as one block
abbrev pub IsClear : ℕ → List ℕ → Type 0
IsClear i nodes = (n : ℕ) → 0 < i / 2 ^ suc n → 0 < node_at nodes (i / 2 ^ suc n)

-- only the node over node i, of height k, may break the rule, and no node over node i is allocated
-- as one block
pub record IsOpen (height k i : ℕ) (nodes : List ℕ) : Type 0 where
  pub place : HasHeight height k i
  pub clear : IsClear i nodes
  pub tree : IsTreeBut height (i / 2) nodes

-- an open tree in which node i is a free run of that height
pub record IsFreed (height k i : ℕ) (nodes : List ℕ) : Type 0 where
  pub opened : IsOpen height k i nodes
  pub free : node_at nodes i ≡ whole_free k

-- an open tree in which node i and its buddy are not both free, so that the node over them has
-- the larger order of the two
pub record IsParted (height i : ℕ) (nodes : List ℕ) : Type 0 where
  pub level : ℕ
  pub opened : IsOpen height level i nodes
  pub parted :
      (j : ℕ) → j / 2 ≡ i / 2 → j ≢ i → node_at nodes i ≡ whole_free level
      → node_at nodes j ≢ whole_free level

-- a tree with room for a block of that order
pub record HasRoom (height order : ℕ) (nodes : List ℕ) : Type 0 where
  pub tree : IsTree height nodes
  pub low : order ≤ height
  pub room : whole_free order ≤ node_at nodes 1

-- the first page of the run of node i, of that height
abbrev pub start_of : ℕ → ℕ → ℕ → ℕ
start_of height k i = i * 2 ^ k - 2 ^ height

-- the run of node i, of that order, starts at that page
pub record IsRunOf (height order start i : ℕ) : Type 0 where
  pub place : HasHeight height order i
  pub start_is : start_of height order i ≡ start

-- no run of that order starts at that page, so no allocated block does
abbrev pub IsNoRun : ℕ → ℕ → ℕ → Type 0
IsNoRun height order start =
    (lent : List PlainBlock) → IsLentSet height lent → is_lent (block start order) lent ≡ false

-- node i is free, and its run is the first one of that order that is
pub record Found (height order i : ℕ) (nodes : List ℕ) : Type 0 where
  pub place : HasHeight height order i
  pub free : node_at nodes i ≡ whole_free order
  pub clear : IsClear i nodes
  pub fit_is : fit height (lent_blocks height nodes) order ≡ Some (start_of height order i)
  pub lent_is :
      lent_blocks height (slice_set nodes i 0)
      ≡ inserted (block (start_of height order i) order) (lent_blocks height nodes)

-- node i is a free run, and so many steps down on its left side is the first block of the order
pub record FoundRun (height order i : ℕ) (nodes : List ℕ) : Type 0 where
  pub tree : IsTree height nodes
  pub steps : ℕ
  pub place : HasHeight height (steps + order) i
  pub free : node_at nodes i ≡ whole_free (steps + order)
  pub found : Found height order (i * 2 ^ steps) nodes

-- all pages of a tree to be are free
pub record ArePagesFree (height : ℕ) (nodes : List ℕ) : Type 0 where
  pub low : height ≤ MAX_HEIGHT
  pub len : length nodes ≡ 2 * 2 ^ height
  pub pages : (i : ℕ) → i < length nodes → node_at nodes i ≡ whole_free 0

-- what an `OrderTree` keeps: a tree, and how many pages of it are free
pub record IsOrderTree (height free : ℕ) (nodes : List ℕ) : Type 0 where
  pub tree : IsTree height nodes
  pub free_is : free ≡ free_pages height (lent_blocks height nodes)
