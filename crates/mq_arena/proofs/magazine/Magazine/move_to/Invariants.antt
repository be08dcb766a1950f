use Rattle.std.proofs.Common.{length, vec_capacity}
use Rattle.mq_arena.specs.Magazine.{HasMoved, IsMagazine}
use Rattle.mq_arena.proofs.magazine.Magazine.move_to.Given as goal

-- the blocks so far have moved, and the rest are counted
abbrev pub invariant-loop-block : goal.invariant-loop-block
invariant-loop-block g l = record {
  moved : HasMoved l.fn.self l.self-inside.blocks.items l.fn.other l.other;
  counted : IsMagazine l.self-inside.blocks.items l.self-inside.pages (vec_capacity l.self-inside.blocks);
}

abbrev pub decreases-loop-block : goal.decreases-loop-block
decreases-loop-block g l = length l.self-inside.blocks.items
