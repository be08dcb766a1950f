-- What the calls of a worker's port do at its seat (msgop(2), msgctl(2)).
use Rattle.std.specs.Prelude.{◌≡◌, ◌⊎◌, ℕ, ℤ, Bool, false, Result, Ok, Err}
use Rattle.mq_arena.specs.Text.{PlainText}
use Rattle.mq_queue.specs.declared.limits.TheConstants.{MSGMAX}
use Rattle.mq_message.specs.Selection.{selection_of}
use Rattle.mq_table.specs.Ids.{seq_of, slot_of}
use Rattle.mq_calls.specs.declared.errno.Errno.{Errno}
use Rattle.mq_calls.specs.declared.results.Delivered.{Delivered}
use Rattle.mq_calls.specs.declared.results.Removal.{Removal}
use Rattle.mq_system.specs.Outcome.{IsReceived, IsRefusal, IsRemoved, IsSent}
use Rattle.mq_system.specs.Refusals.{MayNotDraft, MayReceive, MayRemove, MaySend, never_sent}
use Rattle.mq_system.specs.Refusals.{out_of_slots}
use Rattle.mq_system.specs.Seat.{SeatState}
use Rattle.mq_system.specs.Seen.{receive_verdict, remove_verdict, send_verdict}
use Rattle.mq_cli.specs.declared.threads.taken.Taken.{Taken}
use Rattle.mq_cli.specs.Letters.{AreLetters}

-- a text of n bytes was sent; or none was drafted, and no call was made; or the call was refused,
-- with EAGAIN only where its waits end
abbrev pub Sends : ℕ → SeatState → SeatState → ℕ → ℤ → ℕ → ℕ → Bool → ℕ → Result ℕ Errno → Type 0
Sends slots old new id mtype tag n ends moment (Ok entry) =
    IsSent slots id mtype tag n moment old new entry
Sends slots old new id mtype tag n ends moment (Err errno) = ((new ≡ old) × MayNotDraft n errno)
    ⊎ IsRefusal (never_sent slots id mtype) (MaySend ends) (slot_of id)
    (send_verdict (seq_of id) mtype n) old new errno

-- what is returned of a message that was received
abbrev pub taken_of : Delivered PlainText → Taken
taken_of d = record { sender = d.sender; tag = d.tag; mtype = d.mtype; length = d.length }

-- the message that the selection names was received whole, its text is the letters of its sender
-- and its tag, and it is returned; or the call was refused, with ENOMSG only where its waits end
abbrev pub Receives : ℕ → SeatState → SeatState → ℕ → ℤ → Bool → ℕ → Result Taken Errno → Type 0
Receives slots old new id msgtyp ends moment (Ok taken) =
    (d : Delivered PlainText) × (taken ≡ taken_of d)
    × IsReceived AreLetters slots id MSGMAX (selection_of msgtyp false) false moment old new d
Receives slots old new id msgtyp ends moment (Err errno) =
    IsRefusal (out_of_slots slots id) (MayReceive ends false) (slot_of id)
    (receive_verdict (seq_of id) MSGMAX (selection_of msgtyp false) false) old new errno

-- the queue was removed, and its entry alone is returned; or the call was refused
abbrev pub Removes : ℕ → ℕ → SeatState → SeatState → ℕ → ℕ → Result ℕ Errno → Type 0
Removes slots last_seq old new id moment (Ok entry) =
    (r : Removal) × (entry ≡ r.entry) × IsRemoved slots last_seq id moment old new r
Removes slots last_seq old new id moment (Err errno) =
    IsRefusal (out_of_slots slots id) MayRemove (slot_of id) (remove_verdict (seq_of id)) old new
    errno
