-- A threads script that was read has few sections, whose messages can be counted.
use Rattle.std.proofs.Common.{◌≡◌, ℕ, ◌+◌, ◌*◌, ◌≤◌, zero, suc, List, [], ◌∷◌, ◌++◌, length, map, refl, sym, ap, arith, length-append, Ok, Some}
use Rattle.std.specs.Global.{Vec}
use Rattle.std.specs.List.{All}
use Rattle.std.proofs.lemmas.List.Sums.{sum_by-append}
use Rattle.mq_cli.specs.declared.limits.TheConstants.{MAX_MESSAGES, MAX_WORKERS}
use Rattle.mq_cli.specs.declared.threads.step.Step.{Step}
use Rattle.mq_cli.specs.declared.threads.step.Step.TheVariants.{Put, Take, Remove}
use Rattle.mq_cli.specs.declared.threads.script.ThreadsLine.{ThreadsLine}
use Rattle.mq_cli.specs.declared.threads.script.ThreadsLine.TheVariants.{Worker, Main, Section}
use Rattle.mq_cli.specs.Plans.{IsCountable, puts_in, puts_of, takes_in, takes_of}
use Rattle.mq_cli.specs.ThreadsLaws.{CanStand}
use Rattle.mq_cli.specs.ThreadsScript.{Wanted, onto_last, threads_reading, with_line}
use Rattle.mq_cli.proofs.ThreadsLemmas.{threads_spelled_one_way}

-- the messages of each section, of which so many lines were read, are no more than so many lines can have
abbrev pub AreSmall : ℕ → List (List Step) → Type 0
AreSmall n [] = Unit {0}
AreSmall n (steps ∷ sections) = (puts_in steps + takes_in steps ≤ MAX_MESSAGES * n) × AreSmall n sections

abbrev pub IsSmall : ℕ → Wanted → Type 0
IsSmall n w = (length w.sections ≤ MAX_WORKERS) × AreSmall n w.sections

small_more : (n : ℕ) (sections : List (List Step)) → AreSmall n sections → AreSmall (n + 1) sections
small_more n [] small = tt
small_more n (steps ∷ sections) small = (omega (arith, small.0), small_more n sections small.1)

small_begun : (n : ℕ) (sections : List (List Step)) → AreSmall n sections → AreSmall (n + 1) (sections ++ [] ∷ [])
small_begun n [] small = (omega arith, tt)
small_begun n (steps ∷ sections) small = (omega (arith, small.0), small_begun n sections small.1)

small_step : (n : ℕ) (step : Step) (sections : List (List Step)) → puts_of step + takes_of step ≤ MAX_MESSAGES → AreSmall n sections → AreSmall (n + 1) (onto_last step sections)
small_step n step [] few small = tt
small_step n step (steps ∷ []) few small =
    let puts : puts_in (steps ++ step ∷ []) ≡ puts_in steps + puts_in (step ∷ []) = sum_by-append puts_of steps (step ∷ []) in
    let takes : takes_in (steps ++ step ∷ []) ≡ takes_in steps + takes_in (step ∷ []) = sum_by-append takes_of steps (step ∷ []) in
    (omega (arith, puts, takes, few, small.0), tt)
small_step n step (steps ∷ next ∷ sections) few small = (omega (arith, small.0), small_step n step (next ∷ sections) few small.1)

length-onto_last : (step : Step) (sections : List (List Step)) → length (onto_last step sections) ≡ length sections
length-onto_last step [] = refl
length-onto_last step (steps ∷ []) = refl
length-onto_last step (steps ∷ next ∷ sections) = ap suc (length-onto_last step (next ∷ sections))

step_small : (k n : ℕ) (step : Step) → CanStand k n (Section step) → puts_of step + takes_of step ≤ MAX_MESSAGES
step_small k n (Put id mtype count len within moment) can = omega (arith, can.4)
step_small k n (Take id msgtyp count within moment) can = omega (arith, can.4)
step_small k n (Remove id moment) can = omega arith

line_small : (n m : ℕ) (w : Wanted) (line : ThreadsLine) → IsSmall n w → CanStand (length w.sections) m line → IsSmall (n + 1) (with_line w line)
line_small n m w Worker small can = (omega (arith, length-append w.sections ([] ∷ []), can), small_begun n w.sections small.1)
line_small n m w (Main call) small can = (small.0, small_more n w.sections small.1)
line_small n m w (Section step) small can =
    (omega (arith, length-onto_last step w.sections, small.0), small_step n step w.sections (step_small (length w.sections) m step can) small.1)

-- a line that says something
pub said_small : (n m k : ℕ) (w : Wanted) (line : List ℕ) (said : ThreadsLine) → length w.sections ≡ k → Ok (Some said) ≡ threads_reading k m line → IsSmall n w → IsSmall (n + 1) (with_line w said)
said_small n m k w line said count e small =
    let can : CanStand k m said = (threads_spelled_one_way k m line said (sym e)).1 in
    line_small n m w said small (rw count can)

-- and one that says nothing
pub passed_small : (n : ℕ) (w : Wanted) → IsSmall n w → IsSmall (n + 1) w
passed_small n w small = (small.0, small_more n w.sections small.1)

-- the messages of each section can be counted, in as many lines as a script can have
pub small_countable : (n : ℕ) (sections : List (Vec Step)) → n ≤ 1048577 → AreSmall n (map (λ (v : Vec Step). v.items) sections) → All (λ (v : Vec Step). IsCountable v.items) sections
small_countable n [] few small k d within = absurd (omega arith)
small_countable n (s ∷ sections) few small zero d within = omega (arith, small.0)
small_countable n (s ∷ sections) few small (suc k) d within = small_countable n sections few small.1 k d (omega arith)
