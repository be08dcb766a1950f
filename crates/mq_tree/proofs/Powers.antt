-- Powers of two: lengths of blocks and of arenas.
use Rattle.std.proofs.Common.{◌≡◌, ℕ, ◌+◌, ◌-◌, ◌*◌, ◌/◌, ◌%◌, ◌^◌, ◌<◌, ◌≤◌, suc, sym, ap, ◌∙◌, arith, inl, inr, lit<}
use Rattle.std.proofs.Math.Nat.{two-pow-succ, pow-le-pow_right, mul-add-mod_self_right}
use Rattle.std.proofs.lemmas.Nat.{pow_pos, pow-add, pow_below, row_fits, div_below, shr_split}
use Rattle.std.proofs.lemmas.Bool.{cases_lt}

pub pow_suc : (h : ℕ) → 2 ^ suc h ≡ 2 ^ h + 2 ^ h
pow_suc h = two-pow-succ h

pub pow_le : (k h : ℕ) → k ≤ h → 2 ^ k ≤ 2 ^ h
pow_le k h p = pow-le-pow_right {n = 2} (lit< tt) p

-- a block that is no longer than the arena has no larger order
pub order_le : (k h : ℕ) → 2 ^ k ≤ 2 ^ h → k ≤ h
order_le k h p = elim (cases_lt h k) [ inl l ↦ absurd (omega (arith, pow_below h k l)) | inr g ↦ g ]

pow_split : (k h : ℕ) → k ≤ h → 2 ^ h ≡ 2 ^ (h - k) * 2 ^ k
pow_split k h p = let e : (h - k) + k ≡ h = omega arith in ap (λ x. 2 ^ x) (sym e) ∙ pow-add 2 (h - k) k

-- the right half begins at a multiple of each length that fits in it
pub mod_up : (k h s : ℕ) → k ≤ h → (2 ^ h + s) % 2 ^ k ≡ s % 2 ^ k
mod_up k h s p = ap (λ x. (x + s) % 2 ^ k) (pow_split k h p) ∙ mul-add-mod_self_right (2 ^ (h - k)) (2 ^ k) s

-- an aligned block that starts in the left half ends in it
pub aligned_inside : (k h s : ℕ) → k ≤ h → s < 2 ^ h → s % 2 ^ k ≡ 0 → s + 2 ^ k ≤ 2 ^ h
aligned_inside k h s p l a =
    let e : 2 ^ h ≡ 2 ^ (h - k) * 2 ^ k = pow_split k h p in
    let d : s / 2 ^ k < 2 ^ (h - k) = div_below s (2 ^ k) (2 ^ (h - k)) (pow_pos k) (rw e at l) in
    omega (arith, e, row_fits (s / 2 ^ k) (2 ^ k) (2 ^ (h - k)) (2 ^ k) d (omega arith), shr_split s k, a)
