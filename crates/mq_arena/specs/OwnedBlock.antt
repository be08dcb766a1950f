-- A block as its owner holds it.
use Rattle.std.specs.Prelude.{◌≡◌, ℕ, ◌^◌, ◌≤◌, List, length}
use Rattle.mq_arena.specs.declared.limits.TheConstants.{MAX_ORDER}
use Rattle.mq_arena.specs.Bytes.{AreWhole}

-- where a block starts, its order, and its pages with their bytes
pub record OwnedBlock : Type 0 where
  pub start : ℕ
  pub order : ℕ
  pub pages : List (List ℕ)

-- the block with this start, order and pages
abbrev pub owned : ℕ → ℕ → List (List ℕ) → OwnedBlock
owned start order pages = record { start = start; order = order; pages = pages }

-- a block of order k has 2 ^ k pages, all of them whole
pub record IsBlock (b : OwnedBlock) : Type 0 where
  pub low : b.order ≤ MAX_ORDER
  pub count : length b.pages ≡ 2 ^ b.order
  pub whole : AreWhole b.pages

-- the same, and the block carries its pages in its share of the arena's count
pub record HasItsShare (b : OwnedBlock) (amount parts : ℕ) : Type 0 where
  pub block : IsBlock b
  pub counted : amount ≡ 2 ^ b.order
  pub parted : parts ≡ 2 ^ b.order
