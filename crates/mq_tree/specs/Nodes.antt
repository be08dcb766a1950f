-- The nodes of a tree, in the layout of a heap: node 1 is the root, and the halves of node i are
-- nodes 2 * i and 2 * i + 1, each the buddy of the other. A node is 0 where its run of pages is
-- allocated as one block, 1 where nothing in it is free, and else two more than the largest order
-- that is free in it.
use Rattle.std.specs.Prelude.{◌≡◌, ℕ, ◌+◌, ◌*◌, ◌-◌, zero, suc, ◌&&◌, ◌==◌, ◌⊎◌, nat_lt, List, max, slice_index, Option, Some, None, if◌then◌else◌}

-- the node at that index
abbrev pub node_at : List ℕ → ℕ → ℕ
node_at nodes i = slice_index nodes i

-- the node of a run of that height that is free
abbrev pub whole_free : ℕ → ℕ
whole_free height = height + 2

-- the node over two halves: free where both are, else with the larger order of the two
abbrev pub parent : ℕ → ℕ → ℕ → ℕ
parent half left right =
    if (left == whole_free half) && (right == whole_free half) then whole_free half + 1
    else max (max left right) 1

-- the largest order that is free in a run with that node
abbrev pub largest_under : ℕ → Option ℕ
largest_under node = if nat_lt 1 node then Some (node - 2) else None

-- a run with halves that is allocated as one block; the nodes of both halves are those of free runs
pub record IsLentWhole (half node left right : ℕ) : Type 0 where
  pub lent : node ≡ 0
  pub left_free : left ≡ whole_free half
  pub right_free : right ≡ whole_free half

-- the rule of node i, of a run of that height: a page is allocated or free, and any other run is
-- allocated as one block or has the parent of its halves
abbrev pub IsRight : ℕ → ℕ → List ℕ → Type 0
IsRight zero i nodes = (node_at nodes i ≡ 0) ⊎ (node_at nodes i ≡ whole_free 0)
IsRight (suc half) i nodes =
    IsLentWhole half (node_at nodes i) (node_at nodes (2 * i)) (node_at nodes (2 * i + 1))
    ⊎ (node_at nodes i ≡ parent half (node_at nodes (2 * i)) (node_at nodes (2 * i + 1)))
