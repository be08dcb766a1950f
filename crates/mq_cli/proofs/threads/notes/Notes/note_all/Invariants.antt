use Rattle.std.proofs.Common.{◌+◌, ◌≤◌, length, take}
use Rattle.std.specs.HashMap.{spare}
use Rattle.mq_cli.specs.Calls.{messages_of}
use Rattle.mq_cli.specs.Progress.{NotesAll}
use Rattle.mq_cli.specs.contracts.threads.notes.StreamPartialEq.TheImpl.{eq-value}
use Rattle.mq_cli.proofs.threads.notes.Notes.note_all.Given as goal

-- each so far is noted, and there is room for the others
abbrev pub invariant-loop-taken : goal.invariant-loop-taken
invariant-loop-taken l =
    (length l.came ≤ spare l.self.last + l.taken-index) × NotesAll eq-value.it l.fn.self l.self (messages_of l.id (take l.taken-index l.came))
