-- The allocated blocks of an arena, before and after one is allocated or freed.
use Rattle.std.specs.Prelude.{ℕ, List, Option, sum_by}
use Rattle.std.specs.Option.{option_map}
use Rattle.mq_tree.specs.Blocks.{PlainBlock, block, page_count}
pub use Rattle.mq_tree.specs.LentSet.{with_lent}
use Rattle.mq_tree.specs.LentSet.{Lending, inserted, left}
use Rattle.mq_tree.specs.Fit.{fit}
use Rattle.mq_arena.specs.OwnedBlock.{OwnedBlock}

-- where a block lies
abbrev pub place : OwnedBlock → PlainBlock
place b = block b.start b.order

-- the block of that order that is allocated next, and the arena after that; `None` where none fits
abbrev pub lend : Lending → ℕ → Option (PlainBlock × Lending)
lend arena order =
    option_map
    (λ start. (block start order, with_lent arena (inserted (block start order) arena.lent)))
    (fit arena.height arena.lent order)

-- the arena once the block is freed; one that is not allocated changes nothing
abbrev pub gives_back : PlainBlock → Lending → Lending
gives_back b arena = with_lent arena (left b arena.lent)

-- how many pages the allocated blocks have
abbrev pub lent_pages : List PlainBlock → ℕ
lent_pages lent = sum_by page_count lent
