-- A run that is recorded: the calls of its lines that are refused, and what it leaves.
use Rattle.std.specs.Prelude.{ℕ, ◌+◌, Bool, false, nat_lt, if◌then◌else◌, List, [], ◌∷◌, ◌++◌}
use Rattle.std.specs.Prelude.{length, Option, Some, None, Result, Ok, Err}
use Rattle.mq_calls.specs.State.{QueuesState}
use Rattle.mq_calls.specs.declared.config.Config.{Config}
use Rattle.mq_calls.specs.declared.errno.Errno.{Errno}
use Rattle.mq_cli.specs.declared.fault.Cause.{Cause}
use Rattle.mq_trace.specs.declared.refusal.CallName.{CallName}
use Rattle.mq_trace.specs.declared.refusal.CallName.TheVariants.{Get, Send, Receive, Set, Remove, Stat}
use Rattle.mq_trace.specs.declared.refusal.CallName.TheVariants.{Cut}
use Rattle.mq_trace.specs.declared.refusal.Refusal.{Refusal}
use Rattle.mq_cli.specs.Commands.{AskedCall, get, snd, rcv, set, rm, stat, cut, reading}
use Rattle.mq_cli.specs.Lines.{lines_of}
use Rattle.mq_cli.specs.Session.{SessionState, first_session}
use Rattle.mq_cli.specs.Transcript.{Reply, refusal_in, step}

-- a call of line n that a seat made was refused; an id is recorded where the call names one
abbrev pub refused_call : ℕ → ℕ → CallName → Option ℕ → Errno → Option Refusal
refused_call n seat call id errno =
    Some (record { moment = n; seat = seat; call = call; id = id; errno = errno })

-- the refusal of what line n asks for; the lines that only show something have none
abbrev pub refusal_of : ℕ → ℕ → AskedCall → Errno → Option Refusal
refusal_of n seat (get key flags) errno = refused_call n seat Get None errno
refusal_of n seat (snd id mtype text) errno = refused_call n seat Send (Some id) errno
refusal_of n seat (rcv id size mtype except noerror) errno =
    refused_call n seat Receive (Some id) errno
refusal_of n seat (set id qbytes) errno = refused_call n seat Set (Some id) errno
refusal_of n seat (rm id) errno = refused_call n seat Remove (Some id) errno
refusal_of n seat (stat id) errno = refused_call n seat Stat (Some id) errno
refusal_of n seat (cut slot) errno = refused_call n seat Cut None errno
refusal_of n seat _ errno = None

-- the same by what refused the call, if it was refused
abbrev pub refusal_told : ℕ → ℕ → AskedCall → Option Errno → Option Refusal
refusal_told n seat call None = None
refusal_told n seat call (Some errno) = refusal_of n seat call errno

-- the refusals so far, with one more where there is one
abbrev pub with_refusal : List Refusal → Option Refusal → List Refusal
with_refusal refusals None = refusals
with_refusal refusals (Some one) = refusals ++ one ∷ []

abbrev pub noted : List Refusal → ℕ → ℕ → AskedCall → Option Errno → List Refusal
noted refusals n seat call told = with_refusal refusals (refusal_told n seat call told)

-- what is recorded so far: the queues and the seat that makes the calls, and the refusals
pub record Recording : Type 0 where
  pub state : SessionState
  pub refusals : List Refusal

abbrev pub recording : SessionState → List Refusal → Recording
recording s refusals = record { state = s; refusals = refusals }

-- a drain of the log of a slot in the table is skipped like a comment, so that the logs stay whole
abbrev pub is_passed : QueuesState → AskedCall → Bool
is_passed q (cut slot) = nat_lt slot (length q.slots)
is_passed q _ = false

-- what a call leaves, by its reply and the state after it
abbrev pub behind : ℕ → Recording → AskedCall → Reply × SessionState → Recording
behind n r call turn =
    recording turn.1 (noted r.refusals n r.state.seat call (refusal_in turn.0))

abbrev pub recorded : ℕ → Recording → AskedCall → Recording
recorded n r call =
    if is_passed r.state.queues call then r else behind n r call (step n r.state call)

-- what line n leaves, or why it is not well formed
abbrev pub recorded_by : ℕ → Recording → Result (Option AskedCall) Cause → Result Recording Cause
recorded_by n r (Ok None) = Ok r
recorded_by n r (Ok (Some call)) = Ok (recorded n r call)
recorded_by n r (Err cause) = Err cause

-- the rest of a run, or the number of a line that is not well formed, and its cause
abbrev pub records_on : ℕ → Result Recording Cause
    → (Recording → Result Recording (ℕ × Cause)) → Result Recording (ℕ × Cause)
records_on n (Ok r) rest = rest r
records_on n (Err cause) rest = Err (n, cause)

-- what the lines from line n on leave
unfoldable pub recorded_from : ℕ → Recording → List (List ℕ) → Result Recording (ℕ × Cause)
recorded_from n r [] = Ok r
recorded_from n r (line ∷ lines) =
    records_on n (recorded_by n r (reading line)) (λ more. recorded_from (n + 1) more lines)

-- what a script leaves, over a system of this size
abbrev pub recording_of : Config → List ℕ → Result Recording (ℕ × Cause)
recording_of config script = recorded_from 1 (recording (first_session config) []) (lines_of script)
