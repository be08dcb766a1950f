-- A queue.
use Rattle.std.specs.Prelude.{◌≡◌, ℕ, ◌≤◌, false, List, ◌++◌, take, drop}
use Rattle.mq_message.specs.declared.message.Message.{Message}
use Rattle.mq_message.specs.Waiting.{headers_of}
use Rattle.mq_queue.specs.declared.base.Base.{Base}
use Rattle.mq_queue.specs.declared.event.Event.{Event}
use Rattle.mq_queue.specs.declared.figures.Figures.{Figures}
use Rattle.mq_queue.specs.declared.limits.TheConstants.{MAX_CUT, MSGMNB}
use Rattle.mq_queue.specs.Base.{base_of, waiting_from}
use Rattle.mq_queue.specs.Figures.{live_figures}
use Rattle.mq_queue.specs.Lawful.{Lawful}
use Rattle.mq_queue.specs.LawfulFrom.{IsOpenLog, LawfulFrom}
use Rattle.mq_queue.specs.Log.{ends_with_removed}
use Rattle.mq_queue.specs.Waiting.{waiting}

-- a queue: the base of the events that were drained, the events since then, and the pending
-- messages, each with the place of its send in the whole log
pub record Queue (B : Type 0) : Type 0 where
  pub base : Base
  pub tail : List Event
  pub messages : List (ℕ × Message B)

-- a log whose beginning may be drained: the base of it, and the events since then
pub record CutLog : Type 0 where
  pub base : Base
  pub tail : List Event

-- a log of which so many events were drained
abbrev pub rest_of : ℕ → List Event → CutLog
rest_of places log = record { base = base_of (take places log); tail = drop places log }

-- by its base and the events since, the log is that of a queue which is not removed, and the
-- messages are its pending ones
pub record IsSoundFrom {B : Type 0} (bytes : B → List ℕ) (base : Base)
    (tail : List Event) (messages : List (ℕ × Message B)) : Type 0 where
  pub lawful : LawfulFrom base tail
  pub live : ends_with_removed tail ≡ false
  pub waits : headers_of bytes messages ≡ waiting_from base tail

-- the log is that of a queue which is not removed, and the messages are its pending ones
pub record IsSound {B : Type 0} (bytes : B → List ℕ)
    (log : List Event) (messages : List (ℕ × Message B)) : Type 0 where
  pub lawful : Lawful log
  pub live : ends_with_removed log ≡ false
  pub waits : headers_of bytes messages ≡ waiting log

-- the figures are those of a queue with this log, and its counts and its quota are within the
-- greatest quota
pub record AreFigures (log : List Event) (kept : Figures) : Type 0 where
  pub same : kept ≡ live_figures log
  pub count : kept.qnum ≤ MSGMNB
  pub bytes : kept.cbytes ≤ MSGMNB
  pub limit : kept.qbytes ≤ MSGMNB

-- the base is that of some log, with which the queue is sound and the figures are its figures, and
-- at most MAX_CUT events of the log are drained
pub record IsKeptQueue {B : Type 0} (bytes : B → List ℕ) (base : Base) (tail : List Event)
    (messages : List (ℕ × Message B)) (kept : Figures) : Type 0 where
  pub cut : List Event
  pub opened : IsOpenLog cut
  pub known : base ≡ base_of cut
  pub sound : IsSound bytes (cut ++ tail) messages
  pub figures : AreFigures (cut ++ tail) kept
  pub short : base.places ≤ MAX_CUT
