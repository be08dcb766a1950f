-- What a threads script writes: the answers of its main part, and what is printed at the end.
use Rattle.std.specs.Prelude.{ℕ, ◌+◌, ◌==◌, Bool, true, false, if◌then◌else◌, List, [], ◌∷◌, ◌++◌}
use Rattle.std.specs.Prelude.{codes, count_by, Option, Some, None}
use Rattle.std.specs.Fmt.{decimal}
use Rattle.mq_queue.specs.declared.event.Event.{Event}
use Rattle.mq_queue.specs.declared.event.Event.TheVariants.{Sent, Received}
use Rattle.mq_calls.specs.Closed.{entries_at_end}
use Rattle.mq_calls.specs.Names.{errno_name}
use Rattle.mq_calls.specs.declared.close.ClosedSlot.{ClosedSlot}
use Rattle.mq_calls.specs.declared.errno.Errno.{Errno}
use Rattle.mq_cli.specs.declared.threads.outcome.Outcome.{Outcome}

abbrev pub yes_or_no : Bool → List ℕ
yes_or_no true = codes "yes"
yes_or_no false = codes "no"

-- how a worker ended: with all done, or at a refusal
abbrev pub end_name : Option Errno → List ℕ
end_name None = codes "done"
end_name (Some errno) = errno_name errno

-- what is printed of the worker at a seat
unfoldable pub counts_told : ℕ → Outcome → List ℕ
counts_told seat o =
    codes "worker " ++ decimal seat ++ codes " sent " ++ decimal o.sent ++ codes " received "
    ++ decimal o.received

unfoldable pub end_told : Outcome → List ℕ
end_told o = codes " order " ++ yes_or_no o.ordered ++ codes " end " ++ end_name o.end

abbrev pub worker_line : ℕ → Outcome → List ℕ
worker_line seat o = counts_told seat o ++ end_told o ++ 10 ∷ []

-- the lines of the workers, the first of which sat at this seat
abbrev pub worker_lines : ℕ → List Outcome → List ℕ
worker_lines seat [] = []
worker_lines seat (o ∷ outcomes) = worker_line seat o ++ worker_lines (seat + 1) outcomes

abbrev pub is_sent : Event → Bool
is_sent (Sent seat moment tag mtype n) = true
is_sent _ = false

abbrev pub is_receipt : Event → Bool
is_receipt (Received seat noerror moment place selection size) = true
is_receipt _ = false

-- the entries that a slot leaves
abbrev pub events_of : ClosedSlot → List Event
events_of slot = slot.past.items ++ slot.last.items

abbrev pub sent_in : List Event → ℕ
sent_in events = count_by is_sent events

abbrev pub received_in : List Event → ℕ
received_in events = count_by is_receipt events

-- what is printed of a slot
unfoldable pub slot_told : (number events sent received left : ℕ) → List ℕ
slot_told number events sent received left =
    codes "slot " ++ decimal number ++ codes " events " ++ decimal events ++ codes " sent "
    ++ decimal sent ++ codes " received " ++ decimal received ++ codes " left " ++ decimal left
    ++ 10 ∷ []

-- where it ever had a queue: how many entries it had, and how many messages were sent and received
-- by those that it leaves
abbrev pub slot_line : ℕ → ClosedSlot → List ℕ
slot_line number slot =
    if entries_at_end slot == 0 then []
    else slot_told number (entries_at_end slot) (sent_in (events_of slot))
    (received_in (events_of slot)) slot.left

-- the lines of the slots, the first of which has this number
abbrev pub slot_lines : ℕ → List ClosedSlot → List ℕ
slot_lines number [] = []
slot_lines number (slot ∷ slots) =
    slot_line number slot ++ slot_lines (number + 1) slots

-- what is printed of the pages
unfoldable pub page_line : ℕ → ℕ → List ℕ
page_line pages free = codes "pages " ++ decimal pages ++ codes " free " ++ decimal free ++ 10 ∷ []

-- all that is printed at the end: the workers sat at the seats from 2 on
abbrev pub closing : List Outcome → List ClosedSlot → ℕ → ℕ → List ℕ
closing outcomes slots pages free =
    worker_lines 2 outcomes ++ slot_lines 0 slots ++ page_line pages free
