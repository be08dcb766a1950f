-- A cut changes no other line of a run.
use Rattle.std.proofs.Common.{◌≡◌, ℕ, ◌+◌, if◌then◌else◌, List, [], ◌∷◌, ◌++◌, map, codes, Option}
use Rattle.std.proofs.Common.{None, Some, Result, Ok, Err, Bool, true, false, refl, ap, rules, sym, subst}
use Rattle.std.proofs.Common.{◌∙◌}
use Rattle.std.specs.List.{AllZip, flat_map, range_with_len}
use Rattle.mq_calls.specs.declared.config.Config.{Config}
use Rattle.mq_cli.specs.Commands.{AskedCall, reading}
use Rattle.mq_cli.specs.declared.fault.Cause.{Cause}
use Rattle.mq_cli.specs.Cuts.{asks_cut, is_cut, texts_from, texts_of_others, then_others}
use Rattle.mq_cli.specs.Cuts.{unless_cut, without_cuts}
use Rattle.mq_cli.specs.Laws.{CutsChangeNoOther}
use Rattle.mq_cli.specs.Session.{SessionState, first_session}
use Rattle.mq_table.specs.SlotParts.{empty_kept}
use Rattle.mq_cli.specs.Transcript.{runs_on, output, run_from, said, step}
use Rattle.mq_cli.proofs.AlikeQueues.{empty_alike}
use Rattle.mq_cli.proofs.AlikeSlots.{AreAlike}
use Rattle.mq_cli.proofs.AlikeSteps.{RunsAlike, cut_alone, step_like}

-- both runs begin alike
start_alike : (config : Config)
    → RunsAlike config.last_seq (first_session config) (first_session config)
start_alike config = search (rules, slots (range_with_len 0 config.slots))
  where
    slots : (numbers : List ℕ) → AllZip (AreAlike config.last_seq) (map empty_kept numbers)
        (map empty_kept numbers)
    slots [] = tt
    slots (n ∷ numbers) = (empty_alike config.last_seq n, slots numbers)

-- a comment says nothing
comment : reading (codes "#") ≡ Ok None
comment = refl

-- a line that is read so writes the same in both runs
record LineLike (last_seq n : ℕ) (s t : SessionState) (lines : List (List ℕ))
    (r x : Result (Option AskedCall) Cause) : Type 0 where
  texts : then_others (said n t x) (λ v. texts_from (n + 1) v (without_cuts lines))
      ≡ unless_cut (asks_cut r) (texts_of_others lines)
      (then_others (said n s r) (λ u. texts_from (n + 1) u lines))
  fault : (runs_on n (said n t x) (λ v. run_from (n + 1) v (without_cuts lines))).fault
      ≡ (runs_on n (said n s r) (λ u. run_from (n + 1) u lines)).fault

record LinesLike (n : ℕ) (s t : SessionState) (lines : List (List ℕ)) : Type 0 where
  texts : texts_from n t (without_cuts lines) ≡ texts_of_others lines (texts_from n s lines)
  fault : (run_from n t (without_cuts lines)).fault ≡ (run_from n s lines).fault

line_like : (last_seq n : ℕ) (s t : SessionState) (line : List ℕ) (lines : List (List ℕ))
    → RunsAlike last_seq s t
    → ((u v : SessionState) → RunsAlike last_seq u v → LinesLike (n + 1) u v lines)
    → (r : Result (Option AskedCall) Cause) → reading line ≡ r
    → LineLike last_seq n s t lines r (reading (if asks_cut r then codes "#" else line))
line_like last_seq n s t line lines k rest (Ok None) is =
    subst (LineLike last_seq n s t lines (Ok None)) (sym is)
    (record { texts = ap (λ texts. [] ∷ texts) (rest s t k).texts; fault = (rest s t k).fault })
line_like last_seq n s t line lines k rest (Err cause) is =
    subst (LineLike last_seq n s t lines (Err cause)) (sym is)
    (record { texts = refl; fault = refl })
line_like last_seq n s t line lines k rest (Ok (Some call)) is =
    let both = found (is_cut call) refl in record { texts = both.0; fault = both.1 }
  where
    Is : Bool → Result (Option AskedCall) Cause → Type 0
    Is b x =
        (then_others (said n t x) (λ v. texts_from (n + 1) v (without_cuts lines))
        ≡ unless_cut b (texts_of_others lines)
        (output (step n s call).0 ∷ texts_from (n + 1) (step n s call).1 lines))
        × ((runs_on n (said n t x) (λ v. run_from (n + 1) v (without_cuts lines))).fault
        ≡ (run_from (n + 1) (step n s call).1 lines).fault)

    found : (b : Bool) → is_cut call ≡ b → Is b (reading (if b then codes "#" else line))
    found true cuts =
        let more = rest (step n s call).1 t (cut_alone last_seq n s t k call cuts) in
        subst (Is true) (sym comment) (ap (λ texts. [] ∷ texts) more.texts, more.fault)
    found false other =
        let both = step_like last_seq n s t k call other in
        let more = rest (step n s call).1 (step n t call).1 both.left in
        let text = ap (λ text. text ∷ texts_from (n + 1) (step n t call).1 (without_cuts lines))
        (sym both.line) in
        subst (Is false) (sym is) (
          text ∙ ap (λ texts. output (step n s call).0 ∷ texts) more.texts,
          more.fault,
        )

lines_like : (last_seq n : ℕ) (s t : SessionState) (lines : List (List ℕ)) → RunsAlike last_seq s t
    → LinesLike n s t lines
unfolding texts_from run_from
lines_like last_seq n s t [] k = record { texts = refl; fault = refl }
lines_like last_seq n s t (line ∷ lines) k =
    let one = line_like last_seq n s t line lines k
    (λ u v like. lines_like last_seq (n + 1) u v lines like) (reading line) refl in
    record { texts = one.texts; fault = one.fault }

-- all that a run writes is what its lines write, one after another
joined_is : (n : ℕ) (s : SessionState) (lines : List (List ℕ))
    → (run_from n s lines).written ≡ flat_map
    (λ text. text) (texts_from n s lines)
unfolding texts_from run_from
joined_is n s [] = refl
joined_is n s (line ∷ lines) = by (said n s (reading line)) (λ t. joined_is (n + 1) t lines)
  where
    by : (r : Result (List ℕ × SessionState) Cause)
        → ((t : SessionState) → (run_from (n + 1) t lines).written ≡ flat_map (λ text. text)
        (texts_from (n + 1) t lines))
        → (runs_on n r (λ t. run_from (n + 1) t lines)).written ≡ flat_map (λ text. text)
        (then_others r (λ t. texts_from (n + 1) t lines))
    by (Ok turn) rest = ap (λ text. turn.0 ++ text) (rest turn.1)
    by (Err cause) rest = refl

pub changes_no_other : (config : Config) (lines : List (List ℕ)) → CutsChangeNoOther config lines
changes_no_other config lines =
    let both = lines_like config.last_seq 1 (first_session config) (first_session config) lines
    (start_alike config) in
    search (rules, joined_is 1 (first_session config) lines, both.texts, both.fault)
