use Rattle.std.proofs.Common.{◌≡◌, ◌≤◌, length}
use Rattle.std.specs.VecDeque.{deque_capacity, deque_len}
use Rattle.mq_system.specs.Drafts.{AreBlocksFor}
use Rattle.mq_system.proofs.pages.magazines.take_blocks.Given as goal

-- a block for each of the letters so far, and room for the others
abbrev pub invariant-loop-place : goal.invariant-loop-place
invariant-loop-place g l =
    AreBlocksFor (λ r. r.now) l.blocks.items l.letters
    × (deque_len l.blocks ≡ l.place)
    × (length l.letters ≤ deque_capacity l.blocks)
