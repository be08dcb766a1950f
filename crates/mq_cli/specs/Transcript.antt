-- What a script writes.
use Rattle.std.specs.Prelude.{ℕ, ℤ, Bool, nat_lt, if◌then◌else◌, ◌+◌, ◌^◌, List, [], ◌∷◌, ◌++◌}
use Rattle.std.specs.Prelude.{length, codes, Option, Some, None, Result, Ok, Err}
use Rattle.std.specs.Fmt.{decimal, signed_decimal}
use Rattle.mq_tree.specs.Fit.{largest}
use Rattle.mq_tree.specs.LentSet.{free_pages}
use Rattle.mq_arena.specs.Text.{PlainText}
use Rattle.mq_queue.specs.declared.figures.Figures.{Figures}
use Rattle.mq_queue.specs.declared.limits.TheConstants.{MSGMAX, MSGMNB}
use Rattle.mq_table.specs.Kept.{entries_of}
use Rattle.mq_calls.specs.Calls.{msgsnd, msgrcv, rmid, cut_log}
use Rattle.mq_calls.specs.Calls.{set as set_answer, stat as stat_answer}
use Rattle.mq_calls.specs.Get.{msgget}
use Rattle.mq_calls.specs.Names.{errno_name}
use Rattle.mq_calls.specs.State.{QueuesState, slot_at}
use Rattle.mq_calls.specs.Texts.{text_spent}
use Rattle.mq_calls.specs.Usages.{usage_of}
use Rattle.mq_calls.specs.declared.config.Config.{Config}
use Rattle.mq_calls.specs.declared.errno.Errno.{Errno}
use Rattle.mq_calls.specs.declared.errno.Errno.TheVariants.{EINVAL}
use Rattle.mq_calls.specs.declared.results.Delivered.{Delivered}
use Rattle.mq_calls.specs.declared.results.GetFlags.{GetFlags}
use Rattle.mq_calls.specs.declared.usage.Usage.{Usage}
use Rattle.mq_cli.specs.declared.fault.Cause.{Cause}
use Rattle.mq_cli.specs.declared.listing.Listing.{Listing}
use Rattle.mq_cli.specs.Lines.{lines_of}
use Rattle.mq_cli.specs.Commands.{AskedCall, sit, show, get, snd, rcv, set, rm, stat, cut, ipcs, info}
use Rattle.mq_cli.specs.Commands.{AskedText, reading}
use Rattle.mq_cli.specs.Drafts.{draft}
use Rattle.mq_cli.specs.Reports.{listing_text}
use Rattle.mq_cli.specs.Session.{SessionState, by_errno, first_session}

-- what a command answers, if it does
pub data Reply : Type 0 where
  silent : Reply
  refused : (errno : Errno) → Reply
  given : (id : ℕ) → Reply
  at : (entry : ℕ) → Reply
  message : (delivery : Delivered PlainText) → Reply
  arena : (pages free : ℕ) (most : Option ℕ) → Reply
  gone : (entry events : ℕ) → Reply
  figures : (queue : Figures) → Reply
  cut_off : (first end : ℕ) → Reply
  table : (listing : Listing) (queues : QueuesState) → Reply
  usage : (all : Usage) → Reply

-- what refused the call, where that is what it answers
abbrev pub refusal_in : Reply → Option Errno
refusal_in (refused errno) = Some errno
refusal_in _ = None

-- the answer of msgrcv, up to the text
unfoldable pub message_head : ℤ → ℕ → ℕ → ℕ → List ℕ
message_head mtype sender tag n =
    codes "msg " ++ signed_decimal mtype ++ codes " seat " ++ decimal sender
    ++ codes " tag " ++ decimal tag ++ codes " len " ++ decimal n ++ codes " ="

-- the answer of `arena`, up to the largest order that fits
unfoldable pub arena_head : ℕ → ℕ → List ℕ
arena_head pages free =
    codes "pages " ++ decimal pages ++ codes " free " ++ decimal free ++ codes " largest "

abbrev pub order_name : Option ℕ → List ℕ
order_name None = codes "none"
order_name (Some order) = decimal order

-- the answer of `stat`: what is pending and the quota, the last sender and receiver, and the times
unfoldable pub counts_of : Figures → List ℕ
counts_of f =
    codes "qnum " ++ decimal f.qnum ++ codes " cbytes " ++ decimal f.cbytes ++ codes " qbytes "
    ++ decimal f.qbytes

unfoldable pub callers_of : Figures → List ℕ
callers_of f = codes " lspid " ++ decimal f.lspid ++ codes " lrpid " ++ decimal f.lrpid

unfoldable pub moments_of : Figures → List ℕ
moments_of f =
    codes " stime " ++ decimal f.stime ++ codes " rtime " ++ decimal f.rtime ++ codes " ctime "
    ++ decimal f.ctime

-- the answer of `info`: what is in use, and the limits
unfoldable pub in_use : Usage → List ℕ
in_use u =
    codes "queues " ++ decimal u.queues ++ codes " messages " ++ decimal u.messages
    ++ codes " bytes " ++ decimal u.bytes

unfoldable pub limits_of : Usage → List ℕ
limits_of u =
    codes " slots " ++ decimal u.slots ++ codes " pages " ++ decimal u.pages ++ codes " msgmax "
    ++ decimal MSGMAX ++ codes " msgmnb " ++ decimal MSGMNB

-- a reply as it is written
abbrev pub reply_text : Reply → List ℕ
reply_text silent = []
reply_text (refused errno) = errno_name errno
reply_text (given id) = codes "id " ++ decimal id
reply_text (at entry) = codes "at " ++ decimal entry
reply_text (arena pages free most) = arena_head pages free ++ order_name most
reply_text (gone entry events) = codes "at " ++ decimal entry ++ codes " events " ++ decimal events
reply_text (figures queue) = counts_of queue ++ callers_of queue ++ moments_of queue
reply_text (cut_off first end) = codes "cut from " ++ decimal first ++ codes " to " ++ decimal end
reply_text (table listing queues) = listing_text listing queues
reply_text (usage all) = in_use all ++ limits_of all
reply_text (message m) = message_head m.mtype m.sender m.tag m.length ++ m.text.bytes

-- its line, where there is one
abbrev pub output : Reply → List ℕ
output silent = []
output reply = reply_text reply ++ 10 ∷ []

-- the reply of an answer, and the state after it: a refused call changes nothing
abbrev pub replied : {T : Type 0} → QueuesState → (T × QueuesState → Reply × QueuesState)
    → Result (T × QueuesState) Errno
    → Reply × QueuesState
replied q reply (Ok turn) = reply turn
replied q reply (Err e) = (refused e, q)

-- what the calls of line n, made by a seat, reply, and the queues after them
abbrev pub get_step : ℕ → ℕ → QueuesState → ℤ → GetFlags → Reply × QueuesState
get_step n seat q key flags = replied q (λ t. (given t.0.id, t.1)) (msgget q seat key flags n)

-- a text that cannot be drafted is refused whatever else the line says
abbrev pub send_step : ℕ → ℕ → QueuesState → ℕ → ℤ → AskedText → Reply × QueuesState
send_step n seat q id mtype text =
    replied q (λ d. replied q (λ t. (at t.0, t.1)) (by_errno (msgsnd d.1 seat id mtype n d.0 n)))
    (draft q text)

-- a received text is freed once it is written
abbrev pub receive_step : ℕ → ℕ → QueuesState → ℕ → ℕ → ℤ → Bool → Bool → Reply × QueuesState
receive_step n seat q id size mtype except noerror =
    replied q (λ t. (message t.0, text_spent t.0.text t.1))
    (by_errno (msgrcv q seat id size mtype except noerror n))

abbrev pub set_step : ℕ → ℕ → QueuesState → ℕ → ℕ → Reply × QueuesState
set_step n seat q id qbytes =
    replied q (λ t. (at t.0, t.1)) (by_errno (set_answer q seat id qbytes n))

abbrev pub remove_step : ℕ → ℕ → QueuesState → ℕ → Reply × QueuesState
remove_step n seat q id =
    replied q (λ t. (gone t.0.entry (t.0.log.base.places + length t.0.log.tail), t.1))
    (by_errno (rmid q seat id n))

-- a slot's log is drained: the reply has how many entries were drained before, and how many the
-- slot ever had
abbrev pub cut_step : QueuesState → ℕ → Reply × QueuesState
cut_step q slot =
    if nat_lt slot (length q.slots)
    then (cut_off (slot_at q slot).first (entries_of (slot_at q slot)), (cut_log q slot).1)
    else (refused EINVAL, q)

-- calls that only show change nothing
abbrev pub figures_reply : Result Figures Errno → Reply
figures_reply (Ok queue) = figures queue
figures_reply (Err errno) = refused errno

abbrev pub arena_reply : QueuesState → Reply
arena_reply q =
    arena (2 ^ q.arena.height) (free_pages q.arena.height q.arena.lent)
    (largest q.arena.height q.arena.lent)

-- the same for the whole run, whose seat is kept
abbrev pub by_seat : SessionState → Reply × QueuesState → Reply × SessionState
by_seat s turn = (turn.0, record { queues = turn.1; seat = s.seat })

-- what the command of line n replies, and the state after it
abbrev pub step : ℕ → SessionState → AskedCall → Reply × SessionState
step n s (sit number) = (silent, record { queues = s.queues; seat = number })
step n s show = (arena_reply s.queues, s)
step n s (get key flags) = by_seat s (get_step n s.seat s.queues key flags)
step n s (snd id mtype text) = by_seat s (send_step n s.seat s.queues id mtype text)
step n s (rcv id size mtype except noerror) =
    by_seat s (receive_step n s.seat s.queues id size mtype except noerror)
step n s (set id qbytes) = by_seat s (set_step n s.seat s.queues id qbytes)
step n s (rm id) = by_seat s (remove_step n s.seat s.queues id)
step n s (stat id) = (figures_reply (stat_answer s.queues id), s)
step n s (cut slot) = by_seat s (cut_step s.queues slot)
step n s (ipcs listing) = (table listing s.queues, s)
step n s info = (usage (usage_of s.queues), s)

-- what a line writes and the state after it, or why it is not well formed
abbrev pub said : ℕ → SessionState → Result (Option AskedCall) Cause
    → Result (List ℕ × SessionState) Cause
said n s (Ok None) = Ok ([], s)
said n s (Ok (Some call)) = Ok (output (step n s call).0, (step n s call).1)
said n s (Err cause) = Err cause

-- what a run writes, and the first line that is not well formed, with its cause
pub record Run : Type 0 where
  pub written : List ℕ
  pub fault : Option (ℕ × Cause)

abbrev pub before : List ℕ → Run → Run
before text run = record { written = text ++ run.written; fault = run.fault }

abbrev pub runs_on : ℕ → Result (List ℕ × SessionState) Cause → (SessionState → Run) → Run
runs_on n (Ok turn) rest = before turn.0 (rest turn.1)
runs_on n (Err cause) rest = record { written = []; fault = Some (n, cause) }

-- the run of the lines from line n on, up to the first that is not well formed
unfoldable pub run_from : ℕ → SessionState → List (List ℕ) → Run
run_from n s [] = record { written = []; fault = None }
run_from n s (line ∷ lines) = runs_on n (said n s (reading line)) (λ t. run_from (n + 1) t lines)

abbrev pub run_of : Config → List ℕ → Run
run_of config script = run_from 1 (first_session config) (lines_of script)

-- the first line of a script that is not well formed, with its cause
abbrev pub fault_of : Config → List ℕ → Option (ℕ × Cause)
fault_of config script = (run_of config script).fault
