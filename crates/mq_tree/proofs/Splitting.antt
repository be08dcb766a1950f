-- A free run of which the first block is allocated: on the way up each right half is free.
use Rattle.std.proofs.Common.{◌≡◌, ℕ, ◌+◌, ◌-◌, ◌*◌, ◌%◌, ◌/◌, ◌^◌, ◌<◌, ◌≤◌, zero, suc, refl, ap, ◌∙◌, arith, inl, List, length, set, subst}
use Rattle.std.proofs.Math.Nat.{le-mul_of_pos_right}
use Rattle.std.proofs.lemmas.List.{get_or-set_same, get_or-set_other}
use Rattle.std.proofs.lemmas.Nat.{shl-shr, pow_pos}
use Rattle.mq_tree.specs.Nodes.{node_at, parent}
use Rattle.mq_tree.specs.Trees.{lent_blocks, HasHeight, IsTree, IsOpen, IsParted, FoundRun}
use Rattle.mq_tree.proofs.Powers.{pow_suc, pow_le}
use Rattle.mq_tree.proofs.Heap.{up_first, to_right, place_pos, place_below}
use Rattle.mq_tree.proofs.Trees.{free_under}
use Rattle.mq_tree.proofs.Changes.{marked_lent, clear_marked}
use Rattle.mq_tree.proofs.Closing.{place_over, over_open, over_lent, over_value, parent_of_parted}

-- node i, that many steps under the run, is split from its first block up
pub record Splits (height run i free : ℕ) (old nodes lent : List ℕ) : Type 0 where
  pub level : ℕ
  pub free_is : free ≡ level + 2
  pub steps : ℕ
  pub under : i ≡ run * 2 ^ steps
  pub tree : IsTree height old
  pub place : HasHeight height (steps + level) run
  pub whole : node_at old run ≡ steps + level + 2
  pub opened : IsOpen height level i nodes
  pub less : node_at nodes i < level + 2
  pub right : run < i → (j : ℕ) → node_at nodes (2 * j + 1) ≡ node_at old (2 * j + 1)
  pub lent_is : lent_blocks height nodes ≡ lent_blocks height lent

half_up : (p n : ℕ) → (2 * p + 1) / 2 / 2 ^ n ≡ p / 2 ^ n
half_up p n = let e : (2 * p + 1) / 2 ≡ p = omega arith in ap (λ x. x / 2 ^ n) e

-- above the run, a node is the left half of the node over it
one_step : (run steps i : ℕ) → i ≡ run * 2 ^ steps → run < i → (s : ℕ) × (steps ≡ suc s) × (i ≡ 2 * (i / 2)) × (i / 2 ≡ run * 2 ^ s)
one_step run zero i e l = absurd (omega (arith, e, l))
one_step run (suc s) i e l =
    let twice : i ≡ 2 * (run * 2 ^ s) = e ∙ ap (λ x. run * x) (pow_suc s) ∙ omega arith in (s, refl, omega (arith, twice), omega (arith, twice))

-- the first block of the run, as the code finds it
pub first_is : {height order run : ℕ} {nodes : List ℕ} (f : FoundRun height order run nodes) (free : ℕ) → free ≡ order + 2
    → run * 2 ^ (node_at nodes run - free) % 18446744073709551616 ≡ run * 2 ^ f.steps
first_is {height = height} {run = run} {nodes = nodes} f free e =
    let steps : node_at nodes run - free ≡ f.steps = omega (arith, f.free, e) in
    let below : run * 2 ^ f.steps < 2048 = omega (arith, place_below f.found.place, pow_le height 10 f.tree.low) in
    ap (λ x. run * 2 ^ x % 18446744073709551616) steps ∙ omega (arith, below)

pub split_first : {height order run : ℕ} {nodes : List ℕ} (f : FoundRun height order run nodes) (i free : ℕ) → i ≡ run * 2 ^ f.steps → free ≡ order + 2
    → Splits height run i free nodes (set nodes i 0) (set nodes i 0)
split_first {height = height} {order = order} {run = run} {nodes = nodes} f i free e g =
    let b = f.found in
    let place : HasHeight height order i = rw e b.place in
    let written : node_at (set nodes i 0) i ≡ 0 = get_or-set_same nodes i 0 0 (omega (arith, f.tree.len, place_below place)) in
    record {
      level = order;
      free_is = g;
      steps = f.steps;
      under = e;
      tree = f.tree;
      place = f.place;
      whole = f.free;
      opened = record {
        place = place;
        clear = clear_marked height order i nodes f.tree place 0 (rw e b.clear);
        tree = marked_lent height order i nodes f.tree place (rw e b.free);
      };
      less = omega (arith, written);
      right = λ l j. get_or-set_other nodes i (2 * j + 1) 0 0 (λ g. omega (arith, g, (one_step run f.steps i e l).2));
      lent_is = refl;
    }

module _ {height run i free : ℕ} {old nodes lent : List ℕ} (s : Splits height run i free old nodes lent) where
  module _ (more : run < i) where
    some : 1 < i
    some = omega (arith, more, place_pos s.place)

    up : (n : ℕ) × (s.steps ≡ suc n) × (i ≡ 2 * (i / 2)) × (i / 2 ≡ run * 2 ^ n)
    up = one_step run s.steps i s.under more

    right_free : node_at nodes (2 * (i / 2) + 1) ≡ s.level + 2
    right_free =
        let n = up.0 in
        let j = 2 * (i / 2) + 1 in
        let over : j / 2 ^ suc n ≡ run = up_first n j ∙ half_up (i / 2) n ∙ (rw up.3 (shl-shr run n)) in
        let h = s.steps + s.level in
        s.right more (i / 2)
        ∙ free_under height old s.tree s.level j n h (omega (arith, up.1)) (to_right height s.level (i / 2) (place_over s.opened some)) (omega (arith, s.place.depth_is))
        (inl (rw over s.whole))

    is_parent : free ≡ parent s.level (node_at nodes (2 * (i / 2))) (node_at nodes (2 * (i / 2) + 1))
    is_parent =
        let j = 2 * (i / 2) + 1 in
        omega (
          arith,
          s.free_is,
          s.less,
          right_free,
          parent_of_parted s.opened some j (omega arith) (λ f. omega (arith, f, up.2)) (λ e. absurd (omega (arith, e, s.less))),
        )

    pub next_split : Splits height run (i / 2) (free + 1) old (set nodes (i / 2) free) lent
    next_split =
        let n = up.0 in
        let e : s.steps + s.level ≡ n + suc s.level = omega (arith, up.1) in
        let value = over_value s.opened some free is_parent in
        record {
          level = suc s.level;
          free_is = omega (arith, s.free_is);
          steps = n;
          under = up.3;
          tree = s.tree;
          place = subst (λ k. HasHeight height k run) e s.place;
          whole = omega (arith, s.whole, e);
          opened = over_open s.opened some free is_parent;
          less = omega (arith, value, s.free_is);
          right =
              λ l j. get_or-set_other nodes (i / 2) (2 * j + 1) free 0 (λ g. omega (arith, g, (one_step run n (i / 2) up.3 l).2)) ∙ s.right more j;
          lent_is = over_lent s.opened some free is_parent ∙ s.lent_is;
        }

    pub over_in : i / 2 < length nodes
    over_in = omega (arith, s.opened.tree.len, place_below s.opened.place)

  pub split_done : i ≤ run → IsParted height run nodes
  split_done l =
      let e : i ≡ run = omega (arith, l, s.under, le-mul_of_pos_right run (pow_pos s.steps)) in
      record { level = s.level; opened = subst (λ n. IsOpen height s.level n nodes) e s.opened; parted = λ j _ _ f. absurd (omega (arith, s.less, rw (← e) at f)) }
