use Rattle.std.proofs.Common.{◌≡◌, ◌+◌, List, ◌++◌, length, take, drop}
use Rattle.std.specs.List.{AllZip}
use Rattle.std.specs.VecDeque.{deque_capacity, deque_len}
use Rattle.mq_arena.specs.Text.{PlainText}
use Rattle.mq_system.specs.Drafts.{AreBlocksFor, IsLetterOf}
use Rattle.mq_system.specs.declared.many.Letter.{Letter}
use Rattle.mq_system.proofs.system.System.draft_texts_by_within.Given as goal

-- the texts of the letters so far, behind those that were there, and blocks for the next ones
abbrev pub invariant-loop-place : goal.invariant-loop-place
invariant-loop-place g l =
    (drafts : List (Letter PlainText)) × (l.texts.items ≡ l.fn.texts.items ++ drafts)
    × AllZip (IsLetterOf (λ r. r.now)) drafts (take l.place l.letters)
    × (length drafts ≡ l.place)
    × AreBlocksFor (λ r. r.now) l.blocks.items (drop l.place l.letters)
    × (deque_len l.texts ≡ deque_len l.fn.texts + l.place)
    × (deque_capacity l.texts ≡ deque_capacity l.fn.texts)
