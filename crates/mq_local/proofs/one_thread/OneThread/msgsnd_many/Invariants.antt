use Rattle.std.proofs.Common.{◌≡◌, List, ◌++◌, length}
use Rattle.std.specs.List.{FoldsTo}
use Rattle.mq_arena.specs.Text.{PlainText}
use Rattle.mq_message.specs.declared.message.Message.{Message}
use Rattle.mq_local.specs.Many.{Sends}
use Rattle.mq_local.proofs.one_thread.OneThread.msgsnd_many.Given as goal

-- the messages sent so far, one after another, and those that are left
abbrev pub invariant-loop-done : goal.invariant-loop-done
invariant-loop-done g l =
    (sent : List (Message PlainText)) × (l.fn.messages.items ≡ sent ++ l.messages.items)
    × FoldsTo (Sends l.id l.moment) l.fn.self sent l.self
    × (length sent ≡ l._done)
