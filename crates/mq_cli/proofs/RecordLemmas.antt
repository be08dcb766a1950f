-- What a run that is recorded leaves is what its lines leave.
use Rattle.std.proofs.Common.{◌≡◌, ℕ, ◌+◌, Bool, false, if◌then◌else◌, List, [], ◌∷◌, map, Option, None, Some, IfSome, Result, Ok, Err, refl, sym, ap, ◌∙◌, subst}
use Rattle.std.specs.Global.{Vec}
use Rattle.std.proofs.KnownBytes.{Consumes-whole}
use Rattle.mq_calls.specs.Closed.{ending_of, ends}
use Rattle.mq_calls.specs.declared.close.ClosedSlot.{ClosedSlot}
use Rattle.mq_calls.specs.declared.config.Config.{Config}
use Rattle.mq_calls.specs.declared.errno.Errno.{Errno}
use Rattle.mq_trace.specs.declared.refusal.Refusal.{Refusal}
use Rattle.mq_cli.specs.declared.fault.Cause.{Cause}
use Rattle.mq_cli.specs.declared.fault.RunFault.{RunFault}
use Rattle.mq_cli.specs.declared.fault.RunFault.TheVariants.{Script, Size, Read, Write, Memory, Thread}
use Rattle.mq_cli.specs.declared.recorded.Recorded.{Recorded}
use Rattle.mq_cli.specs.Commands.{AskedCall, reading}
use Rattle.mq_cli.specs.Input.{HasRead, IsUnread, ReadsBy}
use Rattle.mq_cli.specs.Lines.{lines_of}
use Rattle.mq_cli.specs.Recorded.{IsKept, KeepsScript, Leaves, RecordedSerial, Records, RecordsLine, RecordsLines}
use Rattle.mq_cli.specs.Recording.{Recording, behind, is_passed, noted, recorded, recorded_by, recorded_from, recording, recording_of, records_on, refusal_told, with_refusal}
use Rattle.mq_cli.specs.Serial.{Answered}
use Rattle.mq_cli.specs.Session.{SessionState, first_session}
use Rattle.mq_cli.specs.Transcript.{Reply, fault_of, refusal_in, run_from, runs_on, said, step}
use Rattle.mq_cli.proofs.InputLemmas.{reads_few}

-- a call that is made leaves what its answer says
pub call_recorded : (n : ℕ) (s now : SessionState) (found more : List Refusal) (call : AskedCall) (told : Option Errno) (r : Option Refusal) (old new : List ℕ)
    → is_passed s.queues call ≡ false → Answered (step n s call) old new now told → r ≡ refusal_told n s.seat call told → more ≡ with_refusal found r
    → recording now more ≡ recorded n (recording s found) call
call_recorded n s now found more call told r old new made is named kept =
    let Is : Bool → Type 0 = λ b. recording now more ≡ (if b then recording s found else behind n (recording s found) call (step n s call)) in
    let last : List Refusal = noted found n s.seat call (refusal_in (step n s call).0) in
    let found_is : more ≡ last = kept ∙ ap (λ (x : Option Refusal). with_refusal found x) named ∙ ap (λ (t : Option Errno). noted found n s.seat call t) is.refusal in
    subst Is (sym made) (ap (λ (l : List Refusal). recording now l) found_is ∙ ap (λ (t : SessionState). recording t last) is.state)

-- a line that was run is one line less to run
pub line_recorded : (n : ℕ) (r now : Recording) (line : List ℕ) (lines : List (List ℕ)) → RecordsLine n (recorded_by n r (reading line)) now (Ok tt)
    → recorded_from n r (line ∷ lines) ≡ recorded_from (n + 1) now lines
unfolding recorded_from
line_recorded n r now line lines ran = by (recorded_by n r (reading line)) ran
  where
    by : (x : Result Recording Cause) → RecordsLine n x now (Ok tt) → records_on n x (λ more. recorded_from (n + 1) more lines) ≡ recorded_from (n + 1) now lines
    by (Ok next) is = ap (λ (m : Recording). recorded_from (n + 1) m lines) (sym is)
    by (Err cause) is = absurd is

-- a line that ends the run ends it as the definition says
line_ends : (n : ℕ) (r now : Recording) (s : SessionState) (line : List ℕ) (lines : List (List ℕ)) (e : RunFault)
    → RecordsLine n (recorded_by n r (reading line)) now (Err e) → RecordsLines (recorded_from n r (line ∷ lines)) s (Err e)
unfolding recorded_from
line_ends n r now s line lines e ran = by (recorded_by n r (reading line)) e ran
  where
    by : (x : Result Recording Cause) (e : RunFault) → RecordsLine n x now (Err e) → RecordsLines (records_on n x (λ more. recorded_from (n + 1) more lines)) s (Err e)
    by (Ok next) Memory is = tt
    by (Err cause) (Script k named) is = ap (λ (m : ℕ). Err (m, cause)) (sym is.0) ∙ ap (λ (c : Cause). Err (k, c)) (sym is.1)
    by _ _ is = absurd is

pub run_ends : (whole : Result Recording (ℕ × Cause)) (n : ℕ) (r now : Recording) (s : SessionState) (line : List ℕ) (lines : List (List ℕ)) (e : RunFault)
    → whole ≡ recorded_from n r (line ∷ lines) → RecordsLine n (recorded_by n r (reading line)) now (Err e) → RecordsLines whole s (Err e)
run_ends whole n r now s line lines e is ran =
    subst (λ (w : Result Recording (ℕ × Cause)). RecordsLines w s (Err e)) (sym is) (line_ends n r now s line lines e ran)

-- with no line left all is recorded
pub lines_recorded : (n : ℕ) (r : Recording) → recorded_from n r [] ≡ Ok r
unfolding recorded_from
lines_recorded n r = refl

-- what is left once the session was closed
script_kept : (whole : Result Recording (ℕ × Cause)) (s : SessionState) (refusals : Vec Refusal) (slots : Vec ClosedSlot) → RecordsLines whole s (Ok refusals)
    → map ending_of slots.items ≡ map ends s.queues.slots → IsKept whole (record { slots = slots; refusals = refusals })
script_kept whole s refusals slots is ended = record {
  last = recording s refusals.items;
  whole_is = is;
  refusals = refl;
  slots = ended;
}

script_failed : (whole : Result Recording (ℕ × Cause)) (s : SessionState) (e : RunFault) → RecordsLines whole s (Err e) → Records whole (Err e)
script_failed whole s (Script line cause) is = is
script_failed whole s Memory is = tt
script_failed whole s _ is = absurd is

pub script_leaves : (whole : Result Recording (ℕ × Cause)) (s : SessionState) (ended : Result (Vec Refusal) RunFault) (slots : Vec ClosedSlot) (r : Result Recorded RunFault)
    → RecordsLines whole s ended → map ending_of slots.items ≡ map ends s.queues.slots → Leaves ended slots r → Records whole r
script_leaves whole s (Ok refusals) slots r is closed left = subst (Records whole) (sym left) (script_kept whole s refusals slots is closed)
script_leaves whole s (Err e) slots r is closed left = subst (Records whole) (sym left) (script_failed whole s e is)

-- the fault that a recorded run ends with
abbrev fault_in : Result Recording (ℕ × Cause) → Option (ℕ × Cause)
fault_in (Ok r) = None
fault_in (Err fault) = Some fault

-- is that of a run that is answered: each reads its lines alike
same_fault : (n : ℕ) (r : Recording) (s : SessionState) (lines : List (List ℕ)) → (run_from n s lines).fault ≡ fault_in (recorded_from n r lines)
unfolding run_from recorded_from
same_fault n r s [] = refl
same_fault n r s (line ∷ lines) = by (reading line) (λ m t. same_fault (n + 1) m t lines)
  where
    by : (x : Result (Option AskedCall) Cause) → ((m : Recording) (t : SessionState) → (run_from (n + 1) t lines).fault ≡ fault_in (recorded_from (n + 1) m lines))
        → (runs_on n (said n s x) (λ t. run_from (n + 1) t lines)).fault ≡ fault_in (records_on n (recorded_by n r x) (λ m. recorded_from (n + 1) m lines))
    by (Ok None) rest = rest r s
    by (Ok (Some call)) rest = rest (recorded n r call) (step n s call).1
    by (Err cause) rest = refl

script_fault : (config : Config) (script : List ℕ) → fault_of config script ≡ fault_in (recording_of config script)
script_fault config script = same_fault 1 (recording (first_session config) []) (first_session config) (lines_of script)

keeps_script : (config : Config) (script : List ℕ) (r : Result Recorded RunFault) → Records (recording_of config script) r → KeepsScript config r script
keeps_script config script (Ok kept) is = (is, script_fault config script ∙ ap fault_in is.whole_is)
keeps_script config script (Err (Script line cause)) is = script_fault config script ∙ ap fault_in is
keeps_script config script (Err Memory) is = tt
keeps_script config script (Err _) is = absurd is

reads_by : (script left : Option (List ℕ)) (all : Vec ℕ) (whole : Result Recording (ℕ × Cause)) (r : Result Recorded RunFault) → HasRead script left all → Records whole r
    → ReadsBy script left r
reads_by script left all whole (Ok kept) read is = (reads_few script left all read, read.end)
reads_by script left all whole (Err Size) read is = absurd is
reads_by script left all whole (Err (Script line cause)) read is = reads_few script left all read
reads_by script left all whole (Err Read) read is = absurd is
reads_by script left all whole (Err Write) read is = absurd is
reads_by script left all whole (Err Memory) read is = reads_few script left all read
reads_by script left all whole (Err Thread) read is = absurd is

-- a recorded run whose script was read
pub read_kept : (config : Config) (script left : Option (List ℕ)) (all : Vec ℕ) (text : List ℕ) (r : Result Recorded RunFault) → HasRead script left all → text ≡ all.items
    → Records (recording_of config text) r → RecordedSerial config script left r
read_kept config script left all text r read same is = record {
  reads = reads_by script left all (recording_of config text) r read is;
  keeps = Consumes-whole script left all.items (KeepsScript config r) read.whole read.end
      (subst (λ (t : List ℕ). KeepsScript config r t) same (keeps_script config text r is));
}

-- or was not
of_none : (config : Config) (script : Option (List ℕ)) (fault : RunFault) → ((s : List ℕ) → KeepsScript config (Err fault) s) → IfSome script (KeepsScript config (Err fault))
of_none config None fault so = tt
of_none config (Some s) fault so = so s

pub unread_kept : (config : Config) (script left : Option (List ℕ)) (fault : RunFault) → IsUnread script left fault → RecordedSerial config script left (Err fault)
unread_kept config script left Size unread = record { reads = unread; keeps = of_none config script Size (λ s. tt) }
unread_kept config script left Read unread = record { reads = unread; keeps = of_none config script Read (λ s. tt) }
unread_kept config script left Memory unread = record { reads = unread; keeps = of_none config script Memory (λ s. tt) }
unread_kept config script left _ unread = absurd unread
