-- The calls that a plan asks for, each with all arguments of the port, and what was received.
use Rattle.std.specs.Prelude.{ℕ, ◌+◌, ◌==◌, ℤ, Bool, true, false, ◌&&◌, if◌then◌else◌, is_some}
use Rattle.std.specs.Prelude.{List, [], ◌∷◌, ◌++◌, map, replicate, Option, None, Some}
use Rattle.std.specs.List.{range_with_len}
use Rattle.std.specs.Ordering.{int_eq}
use Rattle.mq_cli.specs.declared.threads.notes.Stream.{Stream}
use Rattle.mq_cli.specs.declared.threads.step.Step.{Step}
use Rattle.mq_cli.specs.declared.threads.step.Step.TheVariants.{Put, Take, Remove}
use Rattle.mq_cli.specs.declared.threads.taken.Taken.{Taken}
use Rattle.mq_cli.specs.Plans.{puts_of, rises}

-- a call of a port; `ends` says whether its waits have an end
pub data PortCall : Type 0 where
  send : (id : ℕ) (mtype : ℤ) (tag n : ℕ) (ends : Bool) (moment : ℕ) → PortCall
  receive : (id : ℕ) (msgtyp : ℤ) (ends : Bool) (moment : ℕ) → PortCall
  remove : (id moment : ℕ) → PortCall

-- whether a call sends
abbrev pub is_send : PortCall → Bool
is_send (send id mtype tag n ends moment) = true
is_send (receive id msgtyp ends moment) = false
is_send (remove id moment) = false

-- so many messages of n bytes, where so many were sent before: the tags continue from there
abbrev pub sends_after : ℕ → ℕ → ℤ → ℕ → ℕ → Bool → ℕ → List PortCall
sends_after sent id mtype count n ends moment =
    map (λ tag. send id mtype tag n ends moment) (range_with_len (sent + 1) count)

-- the calls of a step
abbrev pub calls_of : ℕ → Step → List PortCall
calls_of sent (Put id mtype count len within moment) =
    sends_after sent id mtype count len (is_some within) moment
calls_of sent (Take id msgtyp count within moment) =
    replicate count (receive id msgtyp (is_some within) moment)
calls_of sent (Remove id moment) = remove id moment ∷ []

-- the calls of a plan
abbrev pub calls_in : ℕ → List Step → List PortCall
calls_in sent [] = []
calls_in sent (step ∷ plan) = calls_of sent step ++ calls_in (sent + puts_of step) plan

-- a message that was received of a queue
pub record TakenMessage : Type 0 where
  pub id : ℕ
  pub taken : Taken

-- what was received of one queue, as messages
abbrev pub message_of : ℕ → Taken → TakenMessage
message_of id taken = record { id = id; taken = taken }

abbrev pub messages_of : ℕ → List Taken → List TakenMessage
messages_of id taken = map (message_of id) taken

-- its queue, sender and type
abbrev pub stream_of : TakenMessage → Stream
stream_of one = record { id = one.id; sender = one.taken.sender; mtype = one.taken.mtype }

abbrev pub same_stream : Stream → Stream → Bool
same_stream a b = (a.id == b.id) && ((a.sender == b.sender) && int_eq a.mtype b.mtype)

-- the last tag of a stream, where the last received stands first
abbrev pub last_tag : Stream → List TakenMessage → Option ℕ
last_tag stream [] = None
last_tag stream (one ∷ before) = if same_stream (stream_of one) stream then Some one.taken.tag
    else last_tag stream before

-- whether each tag is above the one before it in its stream, where the last received stands first
abbrev pub tags_rise : List TakenMessage → Bool
tags_rise [] = true
tags_rise (one ∷ before) = tags_rise before && rises (last_tag (stream_of one) before) one.taken.tag
