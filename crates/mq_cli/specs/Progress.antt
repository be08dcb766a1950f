-- How far a worker is, and what its notes say of what it received.
use Rattle.std.specs.Prelude.{◌≡◌, ℕ, ◌+◌, ◌^◌, ◌<◌, ◌≤◌, Bool, ◌&&◌, List, ◌++◌, length, reverse}
use Rattle.std.specs.Prelude.{replicate, Option, None, Some, Result, MatchResult, OnOk, OnErr}
use Rattle.std.specs.HashMap.{Updates, get}
use Rattle.mq_calls.specs.declared.errno.Errno.{Errno}
use Rattle.mq_cli.specs.declared.threads.notes.Notes.{Notes}
use Rattle.mq_cli.specs.declared.threads.notes.Stream.{Stream}
use Rattle.mq_cli.specs.declared.threads.outcome.Outcome.{Outcome}
use Rattle.mq_cli.specs.declared.threads.plan.Progress.{Progress}
use Rattle.mq_cli.specs.Calls.{PortCall, TakenMessage, last_tag, tags_rise}
use Rattle.mq_cli.specs.Plans.{rises}
use Rattle.mq_cli.specs.Works.{AreCalled, Puts, Removals, Takes}

-- the notes have the last tag of each stream, and whether all tags rose
pub record AreNotes (eq : Stream → Stream → Bool) (received : List TakenMessage) (notes : Notes)
    : Type 0 where
  pub last : (stream : Stream) → get eq notes.last stream ≡ last_tag stream (reverse received)
  pub ordered : notes.ordered ≡ tags_rise (reverse received)

-- two notes hold the same
pub record HoldSame (eq : Stream → Stream → Bool) (old new : Notes) : Type 0 where
  pub last : (stream : Stream) → get eq new.last stream ≡ get eq old.last stream
  pub ordered : new.ordered ≡ old.ordered

-- a tag is noted as the last of its stream, in order where it is above the one before
pub record NotesTag (eq : Stream → Stream → Bool) (old new : Notes) (stream : Stream) (tag : ℕ)
    : Type 0 where
  pub ordered : new.ordered ≡ (old.ordered && rises (get eq old.last stream) tag)
  pub last : Updates eq old.last new.last stream (Some tag)

-- messages were noted, one after another
abbrev pub NotesAll : (Stream → Stream → Bool) → Notes → Notes → List TakenMessage → Type 0
NotesAll eq old new received =
    (so_far : List TakenMessage) → AreNotes eq so_far old → AreNotes eq (so_far ++ received) new

-- what is reported of a worker that ended so
abbrev pub outcome_of : Progress → Option Errno → Outcome
outcome_of p stop =
    record { sent = p.sent; received = p.received; ordered = p.notes.ordered; end = stop }

-- so many messages more can be counted
pub record CanCount (before : Progress) (puts takes : ℕ) : Type 0 where
  pub sent : before.sent + puts < 2 ^ 64
  pub received : before.received + takes < 2 ^ 64

-- of so many messages to be sent, so many to be received and so many removals all are counted where
-- they were done, and else no more; each call that succeeded, of which there were `old` before and
-- are `new` after, sent or received one of those that are counted, or was a removal
pub record HasCounted (puts takes removes old new : ℕ) (before after : Progress)
    (result : Result (Unit {0}) Errno) : Type 0 where
  pub least_sent : before.sent ≤ after.sent
  pub least_received : before.received ≤ after.received
  pub sent : after.sent ≤ before.sent + puts
  pub received : after.received ≤ before.received + takes
  pub all : OnOk result
      ((after.sent ≡ before.sent + puts) × (after.received ≡ before.received + takes))
  pub done : OnOk result
      (new + (before.sent + before.received) ≡ old + (after.sent + after.received) + removes)
  pub refused : OnErr result
      (new + (before.sent + before.received) ≡ old + (after.sent + after.received))

-- a worker advanced by some of these calls
pub record ComesFurther {Q : Type 0} (eq : Stream → Stream → Bool) (puts : Puts Q) (takes : Takes Q)
    (removes : Removals Q) (calls : List PortCall) (old new : Q) (before after : Progress)
    (end : Option Errno) : Type 0 where
  pub sent : ℕ
  pub received : List TakenMessage
  pub called : AreCalled puts takes removes calls old sent received end new
  pub sent_is : after.sent ≡ before.sent + sent
  pub received_is : after.received ≡ before.received + length received
  pub noted : (so_far : List TakenMessage) → AreNotes eq so_far before.notes
      → AreNotes eq (so_far ++ received) after.notes

-- a worker advanced by one call that stands for up to n of these: it received at least one message,
-- and no more than n, or it was refused after fewer than n
pub record ComesBy {Q : Type 0} (eq : Stream → Stream → Bool) (puts : Puts Q) (takes : Takes Q)
    (removes : Removals Q) (call : PortCall) (n : ℕ) (old new : Q) (before after : Progress)
    (result : Result (Unit {0}) Errno) : Type 0 where
  pub count : MatchResult result
      (λ _. (0 < length after.came.items) × (length after.came.items ≤ n))
      (λ _. length after.came.items < n)
  pub sent : after.sent ≡ before.sent
  pub received : after.received ≡ before.received + length after.came.items
  pub called : MatchResult result
      (λ _. ComesFurther eq puts takes removes (replicate (length after.came.items) call) old new
      before after None)
      (λ errno. ComesFurther eq puts takes removes (replicate n call) old new before after
      (Some errno))
