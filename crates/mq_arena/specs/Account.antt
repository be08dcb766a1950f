-- How many pages blocks have.
use Rattle.std.specs.Prelude.{ℕ, ◌^◌, List, sum_by}
use Rattle.mq_arena.specs.OwnedBlock.{OwnedBlock}

-- how many pages these blocks have together
abbrev pub pages_of : List OwnedBlock → ℕ
pages_of blocks = sum_by (λ b. 2 ^ b.order) blocks
