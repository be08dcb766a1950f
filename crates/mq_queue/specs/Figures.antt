-- The figures of a queue, as its log says (msgctl(2), IPC_STAT).
use Rattle.std.specs.Prelude.{ℕ, if◌then◌else◌, Option, Some, None, List, length}
use Rattle.mq_queue.specs.declared.event.Event.{Event}
use Rattle.mq_queue.specs.declared.event.Event.TheVariants.{Made, Sent, Received, Changed}
use Rattle.mq_queue.specs.declared.figures.Figures.{Figures}
use Rattle.mq_queue.specs.Log.{ends_with_removed, last_told}
use Rattle.mq_queue.specs.Room.{bytes_waiting, quota}
use Rattle.mq_queue.specs.Waiting.{waiting}

-- the seat that sent, if the event is a send
abbrev pub sender_told : Event → Option ℕ
sender_told (Sent seat moment tag mtype n) = Some seat
sender_told _ = None

-- when a message was sent, if the event is a send
abbrev pub sending_told : Event → Option ℕ
sending_told (Sent seat moment tag mtype n) = Some moment
sending_told _ = None

-- the seat that received, if the event is a receipt
abbrev pub receiver_told : Event → Option ℕ
receiver_told (Received seat noerror moment place selection size) = Some seat
receiver_told _ = None

-- when a message was received, if the event is a receipt
abbrev pub receipt_told : Event → Option ℕ
receipt_told (Received seat noerror moment place selection size) = Some moment
receipt_told _ = None

-- when the queue was created or its quota set, if the event is one of these
abbrev pub change_told : Event → Option ℕ
change_told (Made seat moment key) = Some moment
change_told (Changed seat moment qbytes) = Some moment
change_told _ = None

-- the figures of a queue that is not removed, 0 for what has not yet happened (msgctl(2),
-- msqid_ds)
abbrev pub live_figures : List Event → Figures
live_figures log = record {
  qnum = length (waiting log);
  cbytes = bytes_waiting (waiting log);
  qbytes = quota log;
  stime = last_told sending_told 0 log;
  rtime = last_told receipt_told 0 log;
  ctime = last_told change_told 0 log;
  lspid = last_told sender_told 0 log;
  lrpid = last_told receiver_told 0 log;
}

-- the figures where there is no queue
abbrev pub no_figures : Figures
no_figures = record {
  qnum = 0;
  cbytes = 0;
  qbytes = 0;
  stime = 0;
  rtime = 0;
  ctime = 0;
  lspid = 0;
  lrpid = 0;
}

-- the figures of a queue, all 0 once it is removed
abbrev pub figures : List Event → Figures
figures log = if ends_with_removed log then no_figures else live_figures log
