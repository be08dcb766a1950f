-- Blocks in a magazine, and how many pages they have.
use Rattle.std.proofs.Common.{◌≡◌, ℕ, ◌+◌, ◌^◌, ◌≤◌, ◌==◌, List, [], ◌∷◌, length, Some, position, sum_by, get_or, eqb-true, sym, ap, subst, ◌∙◌, arith}
use Rattle.std.specs.List.{swap_remove}
use Rattle.std.specs.List.Sorted.{IsPermutation}
use Rattle.std.proofs.lemmas.Nat.{pow_pos}
use Rattle.std.proofs.lemmas.List.Quantifiers.{position-Some}
use Rattle.std.proofs.lemmas.List.Sorted.{IsPermutation-swap_remove, IsPermutation-sym}
use Rattle.std.proofs.lemmas.List.Sums.{sum_by-cons, sum_by-swap_remove}
use Rattle.mq_arena.specs.OwnedBlock.{OwnedBlock}
use Rattle.mq_arena.specs.Account.{pages_of}

-- each block has a page at least
pub few_blocks : {X : Type 0} (order_of : X → ℕ) (blocks : List X) → length blocks ≤ sum_by (λ b. 2 ^ order_of b) blocks
few_blocks order_of [] = omega arith
few_blocks order_of (b ∷ blocks) = omega (arith, pow_pos (order_of b), few_blocks order_of blocks, sum_by-cons (λ x. 2 ^ order_of x) b blocks)

-- the first block of an order, and what is left without it
pub record IsTaken (order : ℕ) (blocks left : List OwnedBlock) (block : OwnedBlock) : Type 0 where
  pub order_is : block.order ≡ order
  pub fewer : pages_of left + 2 ^ order ≡ pages_of blocks
  pub moved : IsPermutation (block ∷ left) blocks

pub is_taken : (order i : ℕ) (blocks left : List OwnedBlock) (block : OwnedBlock) → position (λ b. b.order == order) blocks ≡ Some i
    → block ≡ get_or blocks i block → left ≡ swap_remove blocks i block → IsTaken order blocks left block
is_taken order i blocks left block found value rest =
    let at = position-Some (λ b. b.order == order) blocks i block found in
    let is : (get_or blocks i block).order ≡ order = eqb-true (get_or blocks i block).order order at.1 in
    record {
      order_is = ap (λ b. b.order) value ∙ is;
      fewer =
          ap (λ r. pages_of r + 2 ^ order) rest ∙ ap (λ k. pages_of (swap_remove blocks i block) + 2 ^ k) (sym is)
          ∙ sum_by-swap_remove (λ b. 2 ^ b.order) blocks i block at.0;
      moved = IsPermutation-sym blocks (block ∷ left) (subst (λ r. IsPermutation blocks (block ∷ r)) (sym rest) (IsPermutation-swap_remove blocks i block at.0 value));
    }
