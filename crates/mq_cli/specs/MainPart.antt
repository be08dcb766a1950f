-- The main part of a threads script: what its calls reply at their seat, and what it writes.
use Rattle.std.specs.Prelude.{◌≡◌, ◌≢◌, ℕ, ℤ, List, [], ◌∷◌, ◌++◌, Option, Result, Ok, Err}
use Rattle.std.specs.List.{flat_map}
use Rattle.std.specs.Io.KnownBytes.{Appends}
use Rattle.mq_table.specs.Ids.{seq_of, slot_of}
use Rattle.mq_calls.specs.declared.errno.Errno.{Errno}
use Rattle.mq_calls.specs.declared.errno.Errno.TheVariants.{ENOMEM}
use Rattle.mq_calls.specs.declared.results.GetFlags.{GetFlags}
use Rattle.mq_calls.specs.declared.results.Got.{Got}
use Rattle.mq_system.specs.Outcome.{IsRefusal, IsSet}
use Rattle.mq_system.specs.Refusals.{MaySet, out_of_slots}
use Rattle.mq_system.specs.Seat.{SeatState}
use Rattle.mq_system.specs.Seen.{set_verdict}
use Rattle.mq_system.specs.Get.{IsGot, IsNotGot}
use Rattle.mq_cli.specs.declared.fault.RunFault.{RunFault}
use Rattle.mq_cli.specs.declared.fault.RunFault.TheVariants.{Write, Memory}
use Rattle.mq_cli.specs.declared.threads.script.MainCall.{MainCall}
use Rattle.mq_cli.specs.declared.threads.script.MainCall.TheVariants.{Get, Set}
use Rattle.mq_cli.specs.Commands.{AskedCall, get, set}
use Rattle.mq_cli.specs.Serial.{AppendsPrefix}
use Rattle.mq_cli.specs.Transcript.{Reply, given, at, refused, output, refusal_in}

-- what a call of the main part asks for, and its moment
abbrev pub asked_in_main : MainCall → AskedCall
asked_in_main (Get key flags moment) = get key flags
asked_in_main (Set id qbytes moment) = set id qbytes

abbrev pub moment_of : MainCall → ℕ
moment_of (Get key flags moment) = moment
moment_of (Set id qbytes moment) = moment

-- msgget returned this id: of a queue that it found, or of one that it created
abbrev pub Gives : ℕ → ℕ → ℤ → GetFlags → ℕ → ℕ → SeatState → SeatState → Type 0
Gives slots last_seq key flags moment id old new =
    (got : Got) × (id ≡ got.id) × IsGot slots last_seq key flags moment old new got

-- what a call replies at a seat that knew the one state before it and the other after it, over so
-- many slots that each are used so often; out of memory has no line
abbrev pub IsReply : ℕ → ℕ → MainCall → Reply → SeatState → SeatState → Type 0
IsReply slots last_seq (Get key flags moment) (given id) old new =
    Gives slots last_seq key flags moment id old new
IsReply slots last_seq (Get key flags moment) (refused errno) old new =
    (errno ≢ ENOMEM) × IsNotGot slots last_seq key flags old new errno
IsReply slots last_seq (Set id qbytes moment) (at entry) old new =
    IsSet slots id qbytes moment old new entry
IsReply slots last_seq (Set id qbytes moment) (refused errno) old new =
    (errno ≢ ENOMEM) × IsRefusal (out_of_slots slots id) (MaySet qbytes) (slot_of id)
    (set_verdict (seq_of id) qbytes) old new errno
IsReply slots last_seq _ _ old new = ⊥

-- the calls and their replies in order, at one seat, from what it knew first to what it knows last
abbrev pub AreReplies : ℕ → ℕ → List MainCall → List Reply → SeatState → SeatState → Type 0
AreReplies slots last_seq [] [] old new = new ≡ old
AreReplies slots last_seq (call ∷ calls) (reply ∷ replies) old new = (mid : SeatState)
    × IsReply slots last_seq call reply old mid × AreReplies slots last_seq calls replies mid new
AreReplies slots last_seq _ _ old new = ⊥

-- the lines of the replies
abbrev pub lines_replied : List Reply → List ℕ
lines_replied replies = flat_map output replies

-- one reply was written after what the buffer held, and what refused the call is returned
abbrev pub Replies : ℕ → ℕ → MainCall → List ℕ → List ℕ → SeatState → SeatState → Option Errno
    → Type 0
Replies slots last_seq call held holds old new told =
    (reply : Reply) × IsReply slots last_seq call reply old new × (holds ≡ held ++ output reply)
    × (told ≡ refusal_in reply)

-- a reply of each call was written
pub record WroteAll (slots last_seq : ℕ) (calls : List MainCall) (old new : SeatState)
    (had has : Option (List ℕ)) : Type 0 where
  pub replies : List Reply
  pub are : AreReplies slots last_seq calls replies old new
  pub wrote : Appends had has (lines_replied replies)

-- a prefix of the replies of the first calls was written
pub record WroteSome (slots last_seq : ℕ) (calls : List MainCall) (old : SeatState)
    (had has : Option (List ℕ)) : Type 0 where
  pub first : List MainCall
  pub rest : List MainCall
  pub cut : calls ≡ first ++ rest
  pub replies : List Reply
  pub mid : SeatState
  pub are : AreReplies slots last_seq first replies old mid
  pub wrote : AppendsPrefix had has (lines_replied replies)

-- what the main part wrote: all, or some of it where a write failed or memory ran out
abbrev pub RanMain : ℕ → ℕ → List MainCall → SeatState → SeatState → Option (List ℕ)
    → Option (List ℕ) → Result (Unit {0}) RunFault → Type 0
RanMain slots last_seq calls old new had has (Ok _) =
    WroteAll slots last_seq calls old new had has
RanMain slots last_seq calls old new had has (Err Write) =
    WroteSome slots last_seq calls old had has
RanMain slots last_seq calls old new had has (Err Memory) =
    WroteSome slots last_seq calls old had has
RanMain slots last_seq calls old new had has (Err _) = ⊥
