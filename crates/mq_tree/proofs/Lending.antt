-- The first free run of an order, on the way down by the largest orders.
use Rattle.std.proofs.Common.{◌≡◌, ℕ, ◌+◌, ◌-◌, ◌*◌, ◌/◌, ◌^◌, ◌<◌, ◌≤◌, zero, suc, refl, sym, ap, ◌∙◌, ◌≢◌, subst, arith, inl, inr, false, List, ◌++◌, Some, None, set, length, leb, zero-add}
use Rattle.std.specs.List.{All}
use Rattle.std.proofs.lemmas.Bool.{lt-leb, cases_lt}
use Rattle.std.proofs.lemmas.List.{get_or-set_same}
use Rattle.mq_tree.specs.Blocks.{PlainBlock, block, IsInArena, moved_up}
use Rattle.mq_tree.specs.LentSet.{inserted}
use Rattle.mq_tree.specs.Fit.{fit}
use Rattle.mq_tree.specs.Nodes.{node_at}
use Rattle.mq_tree.specs.Trees.{blocks_under, HasHeight, IsTree, IsClear, HasRoom, Found, FoundRun}
use Rattle.mq_tree.proofs.Powers.{pow_suc}
use Rattle.mq_tree.proofs.Fits.{fit_empty}
use Rattle.mq_tree.proofs.Heap.{up_first, up_last, up_none, to_left, to_right, place_pos, place_below}
use Rattle.mq_tree.proofs.Trees.{bounded, room_is, free_halves, free_blocks, blocks_lent, blocks_halves, blocks_lent_set, right_room}
use Rattle.mq_tree.proofs.Halving.{fit_halves}
use Rattle.mq_tree.proofs.Halves.{none_is, lent_left, lent_right}
use Rattle.mq_tree.proofs.Changes.{left_written, right_written}
use Rattle.mq_tree.proofs.Starts.{start_in, start_none, start_left, start_right, start_whole, pow_sum}

-- node j, d steps under node i of height k, has the first free run of the order there
pub record IsPicked (order : ℕ) (nodes : List ℕ) (d k i j : ℕ) : Type 0 where
  pub over : j / 2 ^ d ≡ i
  pub fit_is : fit k (blocks_under k i nodes) order ≡ Some (start_in d order j)
  pub lent_is : blocks_under k i (set nodes j 0) ≡ inserted (block (start_in d order j) order) (blocks_under k i nodes)

module _ (height order : ℕ) (nodes : List ℕ) (tree : IsTree height nodes) where
  picked_here : (i : ℕ) → HasHeight height order i → order + 2 ≤ node_at nodes i → IsPicked order nodes 0 order i i
  picked_here i p room =
      let e : node_at nodes i ≡ order + 2 = omega (arith, bounded height nodes tree order i p) in
      let none = free_blocks height nodes tree order i p e in
      record {
        over = up_none i;
        fit_is = rw (none, start_none order i) (fit_empty order order (omega arith));
        lent_is = rw (none, start_none order i) (blocks_lent order i (set nodes i 0) (get_or-set_same nodes i 0 0 (omega (arith, tree.len, place_below p))));
      }

  module _ (d half i j : ℕ) (p : HasHeight height (suc half) i) (room : order + 2 ≤ node_at nodes i) (sum : d + order ≡ half) where
    abbrev xs : List PlainBlock
    xs = blocks_under half (2 * i) nodes

    abbrev ys : List PlainBlock
    ys = blocks_under half (2 * i + 1) nodes

    inside : All (IsInArena half) xs
    inside = (blocks_lent_set half (2 * i) nodes).in_arena

    parted : node_at nodes i ≡ 0 → ⊥
    parted z = omega (arith, z, room)

    -- from the half that node j is in
    picked_up : (s : ℕ) → start_in (suc d) order j ≡ s → j / 2 ^ suc d ≡ i → fit (suc half) (xs ++ moved_up (2 ^ half) ys) order ≡ Some s
        → blocks_under (suc half) i (set nodes j 0) ≡ inserted (block s order) (xs ++ moved_up (2 ^ half) ys) → IsPicked order nodes (suc d) (suc half) i j
    picked_up s is over fits lent =
        let split = blocks_halves half i nodes parted in record { over = over; fit_is = rw (split, is) fits; lent_is = rw (split, is) lent }

    picked_left : IsPicked order nodes d half (2 * i) j → IsPicked order nodes (suc d) (suc half) i j
    picked_left q =
        let s = start_in d order j in
        picked_up s (start_left d order j i q.over) (omega (arith, up_last d j, q.over))
        (fit_halves half xs ys order (omega arith) inside (Some s) (fit half ys order) q.fit_is refl)
        (rw (left_written half i d nodes j 0 (place_pos p) parted q.over, q.lent_is) (lent_left half xs ys order (omega arith) inside s q.fit_is))

    picked_right : leb (order + 2) (node_at nodes (2 * i)) ≡ false → IsPicked order nodes d half (2 * i + 1) j → IsPicked order nodes (suc d) (suc half) i j
    picked_right full q =
        let s = start_in d order j in
        let none = none_is (fit half xs order) (room_is height nodes tree half (2 * i) (to_left height half i p) order ∙ full) in
        picked_up (2 ^ half + s) (rw (pow_sum d order half sum) (start_right d order j i q.over)) (omega (arith, up_last d j, q.over))
        (fit_halves half xs ys order (omega arith) inside None (Some s) none q.fit_is)
        (rw (right_written half i d nodes j 0 (place_pos p) parted q.over, q.lent_is) (lent_right half xs ys order (omega arith) inside s))

-- the way down: the first free run under node i, of height k, is the first one in the arena
pub record Down (height order k i : ℕ) (nodes : List ℕ) : Type 0 where
  pub has : HasRoom height order nodes
  pub low : order ≤ k
  pub place : HasHeight height k i
  pub clear : IsClear i nodes
  pub room : order + 2 ≤ node_at nodes i
  pub picked : (d j : ℕ) → d + order ≡ k → IsPicked order nodes d k i j → (e : ℕ) × (e + order ≡ height) × IsPicked order nodes e height 1 j

clear_half : (nodes : List ℕ) (i j : ℕ) → j / 2 ≡ i → 0 < node_at nodes i → IsClear i nodes → IsClear j nodes
clear_half nodes i j e some c zero l = rw (up_first 0 j, e, up_none i) some
clear_half nodes i j e some c (suc n) l = rw (up_first (suc n) j, e) (c n (rw (up_first (suc n) j, e) at l))

down_found : {height order i : ℕ} {nodes : List ℕ} → Down height order order i nodes → Found height order i nodes
down_found {height = height} {order = order} {i = i} {nodes = nodes} down =
    let q = down.picked 0 i (omega arith) (picked_here height order nodes down.has.tree i down.place down.room) in
    let place : HasHeight height order i = record { depth = q.0; depth_is = q.1; root_is = q.2.over } in
    let s = start_whole height order i place in
    let free : node_at nodes i ≡ order + 2 = omega (arith, down.room, bounded height nodes down.has.tree order i down.place) in
    record { place = place; free = free; clear = down.clear; fit_is = rw (← s) q.2.fit_is; lent_is = rw (← s) q.2.lent_is }

module _ {height order half i : ℕ} {nodes : List ℕ} (low : order ≤ half) (down : Down height order (suc half) i nodes) where
  pub halves_in : 2 * i + 1 < length nodes
  halves_in = omega (arith, down.has.tree.len, place_below (to_right height half i down.place))

  pub goes_left : order + 2 ≤ node_at nodes (2 * i) → Down height order half (2 * i) nodes
  goes_left room = record {
    has = down.has;
    low = low;
    place = to_left height half i down.place;
    clear = clear_half nodes i (2 * i) (omega arith) (omega (arith, down.room)) down.clear;
    room = room;
    picked = λ d j e q. down.picked (suc d) j (omega arith) (picked_left height order nodes down.has.tree d half i j down.place down.room e q);
  }

  pub goes_right : node_at nodes (2 * i) < order + 2 → Down height order half (2 * i + 1) nodes
  goes_right less =
      let full = lt-leb (order + 2) (node_at nodes (2 * i)) less in
      record {
        has = down.has;
        low = low;
        place = to_right height half i down.place;
        clear = clear_half nodes i (2 * i + 1) (omega arith) (omega (arith, down.room)) down.clear;
        room = right_room height nodes down.has.tree half i down.place order low down.room full;
        picked = λ d j e q. down.picked (suc d) j (omega arith) (picked_right height order nodes down.has.tree d half i j down.place down.room e full q);
      }

-- ---- the loop: a node is compared with that of a free run of its height
pub record DownTo (height order whole i : ℕ) (nodes : List ℕ) : Type 0 where
  pub level : ℕ
  pub whole_is : whole ≡ level + 2
  pub down : Down height order level i nodes

module _ {height order whole i : ℕ} {nodes : List ℕ} (d : DownTo height order whole i nodes) where
  module _ (other : node_at nodes i ≢ whole) where
    -- where it is another, the height is over the order
    over_order : order < d.level
    over_order = elim (cases_lt order d.level) [
      | inl l ↦ l
      | inr l ↦
          absurd (other (omega (arith, l, d.whole_is, d.down.low, d.down.room, bounded height nodes d.down.has.tree d.level i d.down.place)))
    ]

    one_down : Down height order (suc (d.level - 1)) i nodes
    one_down = let e : d.level ≡ suc (d.level - 1) = omega (arith, over_order) in subst (λ k. Down height order k i nodes) e d.down

    low : order ≤ d.level - 1
    low = omega (arith, over_order)

    pub both_in : 2 * i + 1 < length nodes
    both_in = halves_in low one_down

    pub to_left_half : order + 2 ≤ node_at nodes (2 * i) → DownTo height order (whole - 1) (2 * i) nodes
    to_left_half room = record { level = d.level - 1; whole_is = omega (arith, over_order, d.whole_is); down = goes_left low one_down room }

    pub to_right_half : node_at nodes (2 * i) < order + 2 → DownTo height order (whole - 1) (2 * i + 1) nodes
    to_right_half less = record { level = d.level - 1; whole_is = omega (arith, over_order, d.whole_is); down = goes_right low one_down less }

-- in a free run the first block is the leftmost one
leftmost : (steps : ℕ) {height order i : ℕ} {nodes : List ℕ} → Down height order (steps + order) i nodes → node_at nodes i ≡ steps + order + 2 → Found height order (i * 2 ^ steps) nodes
leftmost zero {height = height} {order = order} {i = i} {nodes = nodes} down free =
    let here : i ≡ i * 2 ^ 0 = omega arith in subst (λ j. Found height order j nodes) here (down_found (rw (zero-add order) at down))
leftmost (suc steps) {height = height} {order = order} {i = i} {nodes = nodes} down free =
    let half = steps + order in
    let e : suc steps + order ≡ suc half = omega arith in
    let over : Down height order (suc half) i nodes = subst (λ k. Down height order k i nodes) e down in
    let left = (free_halves height nodes over.has.tree half i over.place (inl (omega (arith, free, e)))).0 in
    let twice : 2 * i * 2 ^ steps ≡ i * (2 ^ steps + 2 ^ steps) = omega arith in
    let place : 2 * i * 2 ^ steps ≡ i * 2 ^ suc steps = twice ∙ ap (λ x. i * x) (sym (pow_suc steps)) in
    subst (λ j. Found height order j nodes) place (leftmost steps (goes_left (omega arith) over (omega (arith, left))) left)

pub found_run : {height order whole i : ℕ} {nodes : List ℕ} → DownTo height order whole i nodes → node_at nodes i ≡ whole → FoundRun height order i nodes
found_run {height = height} {order = order} {i = i} {nodes = nodes} d free =
    let steps = d.level - order in
    let e : d.level ≡ steps + order = omega (arith, d.down.low) in
    let down : Down height order (steps + order) i nodes = subst (λ k. Down height order k i nodes) e d.down in
    let is : node_at nodes i ≡ steps + order + 2 = omega (arith, free, d.whole_is, e) in
    record { tree = down.has.tree; steps = steps; place = down.place; free = is; found = leftmost steps down is }
