-- What a run keeps.
use Rattle.std.specs.Prelude.{◌≡◌, ℕ, ◌≤◌, Result, Ok, Err}
use Rattle.mq_arena.specs.declared.limits.TheConstants.{LEDGER_PARTS}
use Rattle.mq_calls.specs.Limits.{empty_queues}
use Rattle.mq_calls.specs.State.{QueuesState}
use Rattle.mq_calls.specs.declared.config.Config.{Config}
use Rattle.mq_calls.specs.declared.errno.Errno.{Errno}
use Rattle.mq_calls.specs.declared.results.Refused.{Refused}

-- the queues, and the seat that makes the calls
pub record SessionState : Type 0 where
  pub queues : QueuesState
  pub seat : ℕ

-- a new ledger can be opened under this name and with so many parts, which are enough for an arena
pub record CanOpen (new_name new_parts named all : ℕ) : Type 0 where
  pub name : new_name ≡ named
  pub parts : new_parts ≡ all
  pub enough : LEDGER_PARTS ≤ new_parts

-- seat 1 begins, with no queue
abbrev pub first_session : Config → SessionState
first_session config = record { queues = empty_queues config; seat = 1 }

-- the answer of a call, by the name of its refusal
abbrev pub by_errno : {T : Type 0} → Result T Refused → Result T Errno
by_errno (Ok turn) = Ok turn
by_errno (Err refused) = Err refused.errno
