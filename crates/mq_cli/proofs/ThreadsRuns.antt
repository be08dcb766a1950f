use Rattle.std.proofs.Common.{◌≡◌, ℕ, ◌+◌, zero, suc, List, [], ◌∷◌, ◌++◌, length, map, Option, Result, Ok, refl, sym, ap, ◌∙◌, arith}
use Rattle.std.proofs.Math.ListN.{set}
use Rattle.std.proofs.lemmas.List.{length-map}
use Rattle.std.specs.Global.{Vec}
use Rattle.std.specs.List.{slice_index_or}
use Rattle.mq_cli.specs.declared.fault.Cause.{Cause}
use Rattle.mq_cli.specs.declared.threads.step.Step.{Step}
use Rattle.mq_cli.specs.declared.threads.script.ThreadsLine.{ThreadsLine}
use Rattle.mq_cli.specs.declared.threads.script.ThreadsScript.{ThreadsScript}
use Rattle.mq_cli.specs.ThreadsParsed.{wanted_seen}
use Rattle.mq_cli.specs.ThreadsScript.{Wanted, reads_on, onto_last, threads_reading, wanted_from}

-- the last section is written
pub onto_last_set : (sections : List (Vec Step)) (k : ℕ) (old new : Vec Step) (step : Step) → k + 1 ≡ length sections → old ≡ slice_index_or sections k old
    → new.items ≡ old.items ++ step ∷ [] → map (λ (v : Vec Step). v.items) (set sections k new) ≡ onto_last step (map (λ (v : Vec Step). v.items) sections)
onto_last_set [] k old new step e is pushed = absurd (omega arith)
onto_last_set (s ∷ []) zero old new step e is pushed = ap (λ l. l ∷ []) (pushed ∙ ap (λ (v : Vec Step). v.items ++ step ∷ []) is)
onto_last_set (s ∷ []) (suc k) old new step e is pushed = absurd (omega arith)
onto_last_set (s ∷ t ∷ sections) zero old new step e is pushed = absurd (omega arith)
onto_last_set (s ∷ t ∷ sections) (suc k) old new step e is pushed =
    ap (λ l. s.items ∷ l) (onto_last_set (t ∷ sections) k old new step (omega arith) is pushed)

-- how many sections there are
pub sections_seen : (s : ThreadsScript) → length (wanted_seen s).sections ≡ s.sections.len
sections_seen s = length-map s.sections.items (λ (v : Vec Step). v.items) ∙ sym s.sections.ok.0

-- a line is taken in, says nothing or is not well formed
pub line_read : (n : ℕ) (w : Wanted) (k : ℕ) (line : List ℕ) (lines : List (List ℕ)) (r : Result (Option ThreadsLine) Cause) → length w.sections ≡ k → r ≡ threads_reading k n line
    → wanted_from n w (line ∷ lines) ≡ reads_on n w r (λ more. wanted_from (n + 1) more lines)
unfolding wanted_from
line_read n w k line lines r count e =
    rw count (ap (λ r. reads_on n w r (λ more. wanted_from (n + 1) more lines)) (sym e))

-- with no line left all is read
pub lines_done : (n : ℕ) (w : Wanted) → wanted_from n w [] ≡ Ok w
unfolding wanted_from
lines_done n w = refl
