-- What a run of a threads script that is recorded leaves.
use Rattle.std.proofs.Common.{◌≡◌, ℕ, List, [], ◌∷◌, ◌++◌, Option, None, Some, IfSome, Result, Ok, Err, refl, sym, ap, ◌∙◌, subst}
use Rattle.std.specs.Global.{Vec}
use Rattle.std.proofs.KnownBytes.{Consumes-whole}
use Rattle.mq_calls.specs.declared.close.ClosedSlot.{ClosedSlot}
use Rattle.mq_calls.specs.declared.config.Config.{Config}
use Rattle.mq_calls.specs.declared.errno.Errno.{Errno}
use Rattle.mq_system.specs.Seat.{SeatState}
use Rattle.mq_trace.specs.declared.refusal.Refusal.{Refusal}
use Rattle.mq_cli.specs.declared.fault.Cause.{Cause}
use Rattle.mq_cli.specs.declared.fault.RunFault.{RunFault}
use Rattle.mq_cli.specs.declared.fault.RunFault.TheVariants.{Script, Size, Read, Write, Memory, Thread}
use Rattle.mq_cli.specs.declared.recorded.Recorded.{Recorded}
use Rattle.mq_cli.specs.declared.threads.script.MainCall.{MainCall}
use Rattle.mq_cli.specs.declared.threads.script.ThreadsScript.{ThreadsScript}
use Rattle.mq_cli.specs.Input.{HasRead, IsUnread, ReadsBy}
use Rattle.mq_cli.specs.MainPart.{AreReplies, Replies, asked_in_main, moment_of}
use Rattle.mq_cli.specs.RecordedThreads.{KeepsThreads, RecordedMain, RecordedThreads, RecordsParts, RecordsWanted, noted_in_main}
use Rattle.mq_cli.specs.Recording.{noted, refusal_told, with_refusal}
use Rattle.mq_cli.specs.Recorded.{Leaves}
use Rattle.mq_cli.specs.Threads.{AreClosed, IsMakingFault, main_seat}
use Rattle.mq_cli.specs.ThreadsParsed.{Parses, wanted_seen}
use Rattle.mq_cli.specs.ThreadsScript.{Wanted, wanted_of}
use Rattle.mq_cli.specs.Transcript.{Reply, refusal_in}
use Rattle.mq_cli.proofs.InputLemmas.{reads_few}
use Rattle.mq_cli.proofs.MainLemmas.{one_more}

-- no call, and no refusal
pub recorded_nothing : (slots last_seq : ℕ) (seat : SeatState) → RecordedMain slots last_seq [] [] seat seat
recorded_nothing slots last_seq seat = record { replies = []; are = refl; refused = refl }

-- the refusals of calls, and of one more behind them
noted_more : (slots last_seq : ℕ) (found : List Refusal) (calls : List MainCall) (replies : List Reply) (call : MainCall) (reply : Reply) (old mid : SeatState)
    → AreReplies slots last_seq calls replies old mid
    → noted_in_main found (calls ++ call ∷ []) (replies ++ reply ∷ []) ≡ noted (noted_in_main found calls replies) (moment_of call) 1 (asked_in_main call) (refusal_in reply)
noted_more slots last_seq found [] [] call reply old mid are = refl
noted_more slots last_seq found (a ∷ calls) (b ∷ replies) call reply old mid are =
    noted_more slots last_seq (noted found (moment_of a) 1 (asked_in_main a) (refusal_in b)) calls replies call reply are.0 mid are.2
noted_more slots last_seq found _ _ call reply old mid are = absurd are

-- one call more was made
pub recorded_more : (slots last_seq : ℕ) (calls : List MainCall) (call : MainCall) (found more : List Refusal) (held holds : List ℕ) (told : Option Errno) (r : Option Refusal)
    (old mid new : SeatState) → RecordedMain slots last_seq calls found old mid → Replies slots last_seq call held holds mid new told
    → r ≡ refusal_told (moment_of call) 1 (asked_in_main call) told → more ≡ with_refusal found r
    → RecordedMain slots last_seq (calls ++ call ∷ []) more old new
recorded_more slots last_seq calls call found more held holds told r old mid new so reply is kept = record {
  replies = so.replies ++ reply.0 ∷ [];
  are = one_more slots last_seq calls so.replies call reply.0 old mid new so.are reply.1;
  refused = kept ∙ ap (λ (x : Option Refusal). with_refusal found x) is ∙ ap (λ (t : Option Errno). noted found (moment_of call) 1 (asked_in_main call) t) reply.3
      ∙ ap (λ (l : List Refusal). noted l (moment_of call) 1 (asked_in_main call) (refusal_in reply.0)) so.refused
      ∙ sym (noted_more slots last_seq [] calls so.replies call reply.0 old mid so.are);
}

-- sections that were not run
pub parts_failed : (slots last_seq : ℕ) (wanted : Wanted) (old new : SeatState) (e : RunFault) → IsMakingFault e → RecordsParts slots last_seq wanted old new (Err e)
parts_failed slots last_seq wanted old new Memory making = tt
parts_failed slots last_seq wanted old new Thread making = tt
parts_failed slots last_seq wanted old new _ making = absurd making

-- so nothing is kept of the run
wanted_failed : (slots last_seq : ℕ) (config : Config) (wanted : Wanted) (old new : SeatState) (e : RunFault) → RecordsParts slots last_seq wanted old new (Err e)
    → RecordsWanted config wanted (Err e)
wanted_failed slots last_seq config wanted old new Memory is = tt
wanted_failed slots last_seq config wanted old new Thread is = tt
wanted_failed slots last_seq config wanted old new _ is = absurd is

-- what is left once the system was closed
pub wanted_leaves : (config : Config) (wanted : Wanted) (now : SeatState) (ran : Result (Vec Refusal) RunFault) (slots : Vec ClosedSlot) (r : Result Recorded RunFault)
    → RecordsParts config.slots config.last_seq wanted (main_seat config) now ran → AreClosed config now slots.items → Leaves ran slots r → RecordsWanted config wanted r
wanted_leaves config wanted now (Ok refusals) slots r parts closed left =
    subst (RecordsWanted config wanted) (sym left) (record { main = now; refusals = parts; closed = closed })
wanted_leaves config wanted now (Err e) slots r parts closed left =
    subst (RecordsWanted config wanted) (sym left) (wanted_failed config.slots config.last_seq config wanted (main_seat config) now e parts)

-- what is known of a script that is not read, or for which memory ran out
of_none : (config : Config) (script : Option (List ℕ)) (fault : RunFault) → ((s : List ℕ) → KeepsThreads config (Err fault) s) → IfSome script (KeepsThreads config (Err fault))
of_none config None fault so = tt
of_none config (Some s) fault so = so s

pub unread_keeps : (config : Config) (script left : Option (List ℕ)) (fault : RunFault) → IsUnread script left fault → RecordedThreads config script left (Err fault)
unread_keeps config script left Size unread = record { reads = unread; keeps = of_none config script Size (λ s. tt) }
unread_keeps config script left Read unread = record { reads = unread; keeps = of_none config script Read (λ s. tt) }
unread_keeps config script left Memory unread = record { reads = unread; keeps = of_none config script Memory (λ s. tt) }
unread_keeps config script left _ unread = absurd unread

pub unmade_keeps : (config : Config) (script left : Option (List ℕ)) (all : Vec ℕ) → HasRead script left all → RecordedThreads config script left (Err Memory)
unmade_keeps config script left all read = record { reads = reads_few script left all read; keeps = of_none config script Memory (λ s. tt) }

-- of one that is not well formed
pub unparsed_keeps : (config : Config) (script left : Option (List ℕ)) (all : Vec ℕ) (text : List ℕ) (fault : RunFault) → HasRead script left all → text ≡ all.items
    → Parses (wanted_of text) (Err fault) → RecordedThreads config script left (Err fault)
unparsed_keeps config script left all text (Script line cause) read same parsed = record {
  reads = reads_few script left all read;
  keeps = Consumes-whole script left all.items (KeepsThreads config (Err (Script line cause))) read.whole read.end
      (subst (λ (t : List ℕ). wanted_of t ≡ Err (line, cause)) same parsed);
}
unparsed_keeps config script left all text Memory read same parsed = unmade_keeps config script left all read
unparsed_keeps config script left all text _ read same parsed = absurd parsed

-- of one that was run
pub wanted_keeps : (config : Config) (script left : Option (List ℕ)) (all : Vec ℕ) (text : List ℕ) (wanted : Wanted) (r : Result Recorded RunFault) → HasRead script left all
    → text ≡ all.items → wanted_of text ≡ Ok wanted → RecordsWanted config wanted r → RecordedThreads config script left r
wanted_keeps config script left all text wanted (Ok kept) read same is records = record {
  reads = (reads_few script left all read, read.end);
  keeps = Consumes-whole script left all.items (KeepsThreads config (Ok kept)) read.whole read.end
      (wanted, subst (λ (t : List ℕ). wanted_of t ≡ Ok wanted) same is, records);
}
wanted_keeps config script left all text wanted (Err Memory) read same is records = unmade_keeps config script left all read
wanted_keeps config script left all text wanted (Err Thread) read same is records = record { reads = reads_few script left all read; keeps = of_none config script Thread (λ s. tt) }
wanted_keeps config script left all text wanted (Err _) read same is records = absurd records
