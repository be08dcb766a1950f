use Rattle.std.proofs.Common.{◌≡◌, List, ◌++◌, length}
use Rattle.std.specs.List.{FoldsTo}
use Rattle.mq_arena.specs.Text.{PlainText}
use Rattle.mq_system.specs.declared.many.Letter.{Letter}
use Rattle.mq.specs.LocalBatches.{IsFirstEntryOf, SendsLetter}
use Rattle.mq.proofs.local_caller.LocalCaller.send_texts.Given as goal

-- the letters sent so far, one after another, the entry of their first, and those that are left
abbrev pub invariant-loop-done : goal.invariant-loop-done
invariant-loop-done g l =
    (sent : List (Letter PlainText)) × (l.fn.letters.items ≡ sent ++ l.letters.items)
    × IsFirstEntryOf l.fn.self.seat l.id l.fn.self.of.now.moment l.fn.self.of.now.queues sent l.first
    × FoldsTo (SendsLetter l.fn.self.seat l.id l.fn.self.of.now.moment) l.fn.self.of.now.queues sent
    l.self.of.now.queues
    × (length sent ≡ l._done)
    × (l.self.seat ≡ l.fn.self.seat)
    × (l.self.of.now.moment ≡ l.fn.self.of.now.moment)
    × (l.self.of.ghost_name ≡ l.fn.self.of.ghost_name)
