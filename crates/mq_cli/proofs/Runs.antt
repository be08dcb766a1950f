use Rattle.std.proofs.Common.{◌≡◌, ℕ, ◌+◌, List, [], ◌∷◌, ◌++◌, Option, None, Some, IfSome, Result, Ok, Err, refl, rules, sym, ap, ◌∙◌, subst, append_assoc, append-nil}
use Rattle.std.specs.Global.{Vec}
use Rattle.std.specs.Io.KnownBytes.{Appends, Keeps}
use Rattle.std.proofs.KnownBytes.{Appends-kept, Appends-nil, Appends-trans, Consumes-whole, Keeps-refl}
use Rattle.mq_calls.specs.declared.config.Config.{Config}
use Rattle.mq_cli.specs.declared.fault.Cause.{Cause}
use Rattle.mq_cli.specs.declared.fault.RunFault.{RunFault}
use Rattle.mq_cli.specs.declared.fault.RunFault.TheVariants.{Script, Size, Read, Write, Memory, Thread}
use Rattle.mq_cli.specs.Commands.{reading}
use Rattle.mq_cli.specs.Input.{HasRead, IsUnread}
use Rattle.mq_cli.specs.Session.{SessionState}
use Rattle.mq_cli.specs.Serial.{AppendsPrefix, RanSerial, Runs, RunsLine, Writes}
use Rattle.mq_cli.specs.Transcript.{Run, before, runs_on, run_from, run_of, said}
use Rattle.mq_cli.proofs.InputLemmas.{reads_few}
use Rattle.mq_cli.proofs.MainLemmas.{all_prefix, prefix_behind, prefix_more}

-- before anything is written a prefix is
pub nothing_yet : (now : Option (List ℕ)) (text : List ℕ) → AppendsPrefix now now text
nothing_yet now text = ([], (text, refl), Appends-nil now)

-- the writer took some text, and the whole run is that text before the rest of the run
pub record SoFar (old now : Option (List ℕ)) (whole rest : Run) : Type 0 where
  pub text : List ℕ
  pub whole_is : whole ≡ before text rest
  pub taken : Appends old now text

pub so_far_nothing : (now : Option (List ℕ)) (run : Run) → SoFar now now run run
so_far_nothing now run = record { text = []; whole_is = refl; taken = Appends-nil now }

before-before : (a b : List ℕ) (run : Run) → before a (before b run) ≡ before (a ++ b) run
before-before a b run = ap (λ (w : List ℕ). record { written = w; fault = run.fault }) (sym (append_assoc a b run.written))

line_done : (old now new : Option (List ℕ)) (n : ℕ) (s : SessionState) (whole : Run) (rest : SessionState → Run) (r : Result (List ℕ × SessionState) Cause)
    → SoFar old now whole (runs_on n r rest) → RunsLine now new n r s (Ok tt) → SoFar old new whole (rest s)
line_done old now new n s whole rest (Ok turn) so ran = record {
  text = so.text ++ turn.0;
  whole_is = subst (λ (t : SessionState). whole ≡ before (so.text ++ turn.0) (rest t)) (sym ran.0)
      (so.whole_is ∙ before-before so.text turn.0 (rest turn.1));
  taken = Appends-trans old now new so.text turn.0 so.taken ran.1;
}
line_done old now new n s whole rest (Err cause) so ran = absurd ran

-- a line that was run is one line less to run
pub so_far_step : (old now new : Option (List ℕ)) (n : ℕ) (s t : SessionState) (whole : Run) (line : List ℕ) (lines : List (List ℕ))
    → SoFar old now whole (run_from n s (line ∷ lines)) → RunsLine now new n (said n s (reading line)) t (Ok tt)
    → SoFar old new whole (run_from (n + 1) t lines)
unfolding run_from
so_far_step old now new n s t whole line lines so ran =
    line_done old now new n t whole (λ u. run_from (n + 1) u lines) (said n s (reading line)) so ran

-- a prefix of what a line writes is a prefix of what the run writes
prefix_before : (old now new : Option (List ℕ)) (whole run : Run) (part : List ℕ)
    → SoFar old now whole (before part run) → AppendsPrefix now new part → AppendsPrefix old new whole.written
prefix_before old now new whole run part so front =
    subst (AppendsPrefix old new) (sym (ap (λ (w : Run). w.written) so.whole_is))
    (prefix_behind old now new so.text (part ++ run.written) so.taken (prefix_more now new part run.written front))

line_failed : (old now new : Option (List ℕ)) (n : ℕ) (s : SessionState) (whole : Run) (rest : SessionState → Run) (r : Result (List ℕ × SessionState) Cause)
    (e : RunFault) → SoFar old now whole (runs_on n r rest) → RunsLine now new n r s (Err e) → Runs old new whole (Err e)
line_failed old now new n s whole rest (Ok turn) Write so ran = prefix_before old now new whole (rest turn.1) turn.0 so ran
line_failed old now new n s whole rest (Ok turn) Memory so ran = prefix_before old now new whole (rest turn.1) turn.0 so ran
line_failed old now new n s whole rest (Err cause) (Script line named) so ran = (
  ap (λ (w : Run). w.fault) so.whole_is ∙ ap (λ (k : ℕ). Some (k, cause)) (sym ran.0) ∙ ap (λ (c : Cause). Some (line, c)) (sym ran.1),
  subst (λ (w : List ℕ). Appends old new w) (sym (ap (λ (w : Run). w.written) so.whole_is))
      (Appends-trans old now new so.text [] so.taken ran.2),
)
line_failed old now new n s whole rest _ _ so ran = absurd ran

-- a line that ends the run ends it as the definition says
pub so_far_failed : (old now new : Option (List ℕ)) (n : ℕ) (s t : SessionState) (whole : Run) (line : List ℕ) (lines : List (List ℕ)) (e : RunFault)
    → SoFar old now whole (run_from n s (line ∷ lines)) → RunsLine now new n (said n s (reading line)) t (Err e) → Runs old new whole (Err e)
unfolding run_from
so_far_failed old now new n s t whole line lines e so ran =
    line_failed old now new n t whole (λ u. run_from (n + 1) u lines) (said n s (reading line)) e so ran

-- with no line left the whole run is done
pub so_far_end : (old now : Option (List ℕ)) (n : ℕ) (s : SessionState) (whole : Run) → SoFar old now whole (run_from n s []) → Runs old now whole (Ok tt)
unfolding run_from
so_far_end old now n s whole so = (
  ap (λ (w : Run). w.fault) so.whole_is,
  subst (λ (w : List ℕ). Appends old now w) (sym (ap (λ (w : Run). w.written) so.whole_is ∙ append-nil so.text)) so.taken,
)

-- however a run ended, a prefix of what it writes was written
pub runs_prefix : (old now : Option (List ℕ)) (run : Run) (r : Result (Unit {0}) RunFault) → Runs old now run r → AppendsPrefix old now run.written
runs_prefix old now run (Ok _) ran = (run.written, ([], sym (append-nil run.written)), ran.1)
runs_prefix old now run (Err (Script line cause)) ran = (run.written, ([], sym (append-nil run.written)), ran.1)
runs_prefix old now run (Err Write) ran = ran
runs_prefix old now run (Err Memory) ran = ran
runs_prefix old now run _ ran = absurd ran

pub writes_prefix : (old new : Option (List ℕ)) (text : List ℕ) (outcome : Result (Unit {0}) RunFault) → Writes old new text outcome → AppendsPrefix old new text
writes_prefix old new text (Ok _) wrote = all_prefix old new text wrote
writes_prefix old new text (Err Write) wrote = wrote
writes_prefix old new text (Err Memory) wrote = wrote
writes_prefix old new text _ wrote = absurd wrote

-- and a flush keeps it so
pub prefix_kept : (old now new : Option (List ℕ)) (text : List ℕ) → AppendsPrefix old now text → Keeps now new → AppendsPrefix old new text
prefix_kept old now new text front kept = (front.0, front.1, Appends-kept old now new front.0 front.2 kept)

-- of a script that was not read nothing is written, which is a prefix
nothing_of : (config : Config) (script now : Option (List ℕ)) → IfSome script (λ s. AppendsPrefix now now (run_of config s).written)
nothing_of config None now = tt
nothing_of config (Some s) now = nothing_yet now (run_of config s).written

-- a run whose script was not read
pub unread_ran : (config : Config) (script left now : Option (List ℕ)) (fault : RunFault) → IsUnread script left fault → RanSerial config script left now now (Err fault)
unread_ran config script left now Size unread = record { reads = unread; writes = Keeps-refl now }
unread_ran config script left now Read unread = record { reads = unread; writes = Keeps-refl now }
unread_ran config script left now Memory unread = record { reads = unread; writes = nothing_of config script now }
unread_ran config script left now _ unread = absurd unread

-- what a run of the bytes that were read did is so of the script, where that is known
of_script : (config : Config) (script left : Option (List ℕ)) (all : Vec ℕ) (text : List ℕ) (old new : Option (List ℕ)) (r : Result (Unit {0}) RunFault)
    → HasRead script left all → text ≡ all.items → Runs old new (run_of config text) r → IfSome script (λ s. Runs old new (run_of config s) r)
of_script config script left all text old new r read same ran =
    Consumes-whole script left all.items (λ s. Runs old new (run_of config s) r) read.whole read.end
    (subst (λ (t : List ℕ). Runs old new (run_of config t) r) same ran)

-- a run whose script was read
pub read_ran : (config : Config) (script left : Option (List ℕ)) (all : Vec ℕ) (text : List ℕ) (old new : Option (List ℕ)) (r : Result (Unit {0}) RunFault)
    → HasRead script left all → text ≡ all.items → Runs old new (run_of config text) r → RanSerial config script left old new r
read_ran config script left all text old new (Err Size) read same ran = absurd ran
read_ran config script left all text old new (Err Read) read same ran = absurd ran
read_ran config script left all text old new (Err Thread) read same ran = absurd ran
read_ran config script left all text old new (Ok done) read same ran =
    search (rules, reads_few script left all read, read.end, of_script config script left all text old new (Ok done) read same ran)
read_ran config script left all text old new r read same ran =
    search (rules, reads_few script left all read, of_script config script left all text old new r read same ran)
