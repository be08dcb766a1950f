-- Where the run of a node starts within that of a node over it.
use Rattle.std.proofs.Common.{◌≡◌, ℕ, ◌+◌, ◌-◌, ◌*◌, ◌/◌, ◌%◌, ◌^◌, ◌<◌, ◌≤◌, suc, refl, sym, ap, ◌∙◌, arith}
use Rattle.std.proofs.Math.Nat.{add-mul, add-div_left}
use Rattle.std.proofs.lemmas.Nat.{pow_pos, pow-add, mod-pow-add, row_fits, shr_split, shr-shr, div_below}
use Rattle.mq_tree.proofs.Powers.{mod_up}
use Rattle.mq_tree.specs.Trees.{HasHeight, IsRunOf, start_of}

-- the first page of the run of node j, of that height, within that of the node d steps over it
abbrev pub start_in : ℕ → ℕ → ℕ → ℕ
start_in d order j = j % 2 ^ d * 2 ^ order

pub start_none : (order j : ℕ) → start_in 0 order j ≡ 0
start_none order j = let e : j % 2 ^ 0 ≡ 0 = omega arith in ap (λ x. x * 2 ^ order) e ∙ omega arith

low_bits : (d j : ℕ) → j % 2 ^ suc d ≡ j / 2 ^ d % 2 * 2 ^ d + j % 2 ^ d
low_bits d j = let e : suc d ≡ 1 + d = omega arith in ap (λ x. j % 2 ^ x) e ∙ mod-pow-add j 1 d

pub start_left : (d order j i : ℕ) → j / 2 ^ d ≡ 2 * i → start_in (suc d) order j ≡ start_in d order j
start_left d order j i e =
    let even : j / 2 ^ d % 2 ≡ 0 = omega (arith, e) in
    ap (λ x. x * 2 ^ order) (low_bits d j ∙ ap (λ x. x * 2 ^ d + j % 2 ^ d) even ∙ omega arith)

pub start_right : (d order j i : ℕ) → j / 2 ^ d ≡ 2 * i + 1 → start_in (suc d) order j ≡ 2 ^ d * 2 ^ order + start_in d order j
start_right d order j i e =
    let odd : j / 2 ^ d % 2 ≡ 1 = omega (arith, e) in
    let bits : 1 * 2 ^ d + j % 2 ^ d ≡ 2 ^ d + j % 2 ^ d = omega arith in
    ap (λ x. x * 2 ^ order) (low_bits d j ∙ ap (λ x. x * 2 ^ d + j % 2 ^ d) odd ∙ bits) ∙ add-mul (2 ^ d) (j % 2 ^ d) (2 ^ order)

pub pow_sum : (d order k : ℕ) → d + order ≡ k → 2 ^ k ≡ 2 ^ d * 2 ^ order
pow_sum d order k e = ap (λ x. 2 ^ x) (sym e) ∙ pow-add 2 d order

pub start_below : (d order k j : ℕ) → d + order ≡ k → start_in d order j < 2 ^ k
start_below d order k j e =
    let l : j % 2 ^ d < 2 ^ d = omega (arith, pow_pos d) in
    omega (arith, row_fits (j % 2 ^ d) (2 ^ order) (2 ^ d) (2 ^ order) l (omega arith), pow_sum d order k e, pow_pos order)

-- within the whole arena
module _ (height order j : ℕ) (p : HasHeight height order j) where
  starts_after : j * 2 ^ order ≡ 2 ^ height + start_in p.depth order j
  starts_after =
      let b : j ≡ 2 ^ p.depth + j % 2 ^ p.depth = omega (arith, rw p.root_is at (shr_split j p.depth)) in
      ap (λ x. x * 2 ^ order) b ∙ add-mul (2 ^ p.depth) (j % 2 ^ p.depth) (2 ^ order) ∙ ap (λ x. x + start_in p.depth order j) (sym (pow_sum p.depth order height p.depth_is))

  pub start_whole : start_in p.depth order j ≡ start_of height order j
  start_whole = omega (arith, starts_after)

  pub start_known : 2 ^ height ≤ j * 2 ^ order
  start_known = omega (arith, starts_after)

-- ---- the node of a block
pub run_of : (height order start : ℕ) → order ≤ height → start < 2 ^ height → start % 2 ^ order ≡ 0 → IsRunOf height order start ((2 ^ height + start) / 2 ^ order)
run_of height order start low below aligned =
    let e : order + (height - order) ≡ height = omega arith in
    let none : start / 2 ^ height ≡ 0 = omega (arith, div_below start (2 ^ height) 1 (pow_pos height) (omega (arith, below))) in
    let whole : (2 ^ height + start) % 2 ^ order ≡ 0 = mod_up order height start low ∙ aligned in
    record {
      place = record {
        depth = height - order;
        depth_is = omega arith;
        root_is = rw (shr-shr (2 ^ height + start) order (height - order), e, add-div_left start {k = 2 ^ height} (pow_pos height), none) refl;
      };
      start_is = omega (arith, shr_split (2 ^ height + start) order, whole);
    }
