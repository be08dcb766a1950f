-- The lines of a threads script, and what they ask for together.
use Rattle.std.specs.Prelude.{ℕ, ◌+◌, ◌^◌, ◌==◌, nat_lt, if◌then◌else◌, List, [], ◌∷◌, ◌++◌}
use Rattle.std.specs.Prelude.{length, codes, Option, Some, None, Result, Ok, Err}
use Rattle.std.specs.List.{list_all}
use Rattle.std.specs.Str.{bytes_eq}
use Rattle.mq_cli.specs.declared.limits.TheConstants.{MAX_MESSAGES, MAX_WITHIN, MAX_WORKERS}
use Rattle.mq_cli.specs.declared.fault.Cause.{Cause}
use Rattle.mq_cli.specs.declared.fault.Cause.TheVariants.{Words}
use Rattle.mq_cli.specs.declared.threads.step.Step.{Step}
use Rattle.mq_cli.specs.declared.threads.step.Step.TheVariants.{Put, Take, Remove}
use Rattle.mq_cli.specs.declared.threads.script.MainCall.{MainCall}
use Rattle.mq_cli.specs.declared.threads.script.MainCall.TheVariants.{Get, Set}
use Rattle.mq_cli.specs.declared.threads.script.ThreadsLine.{ThreadsLine}
use Rattle.mq_cli.specs.declared.threads.script.ThreadsLine.TheVariants.{Worker, Main, Section}
use Rattle.mq_cli.specs.Commands.{AskedCall, get, set, get_asked, set_asked, is_filled, reading_by}
use Rattle.mq_cli.specs.Commands.{◌>>=◌}
use Rattle.mq_cli.specs.Lines.{lines_of}
use Rattle.mq_cli.specs.Numbers.{number_of, integer_of, under}

-- a call of the main part, made by line n
abbrev pub main_call : ℕ → AskedCall → Result ThreadsLine Cause
main_call n (get key flags) = Ok (Main (Get key flags n))
main_call n (set id qbytes) = Ok (Main (Set id qbytes n))
main_call n _ = Err Words

abbrev pub asked : ℕ → Result AskedCall Cause → Result ThreadsLine Cause
asked n (Ok call) = main_call n call
asked n (Err cause) = Err cause

-- the lines of the main part are those of a serial script
abbrev pub main_of : ℕ → List ℕ → List (List ℕ) → Result ThreadsLine Cause
main_of n name words =
    if bytes_eq name (codes "get") then asked n (get_asked words)
    else (if bytes_eq name (codes "set") then asked n (set_asked words)
    else Err Words)

-- within how many milliseconds the waits of a step end, by the words behind its numbers; without
-- such words they have no end
abbrev pub within_of : List (List ℕ) → Result (Option ℕ) Cause
within_of [] = Ok None
within_of (word ∷ span ∷ []) =
    if bytes_eq word (codes "within")
    then (under (MAX_WITHIN + 1) (number_of span) >>= λ s. Ok (Some s))
    else Err Words
within_of _ = Err Words

-- a step, where the words behind its numbers say how its waits end
abbrev pub with_end : Result (Option ℕ) Cause → (Option ℕ → Result ThreadsLine Cause)
    → Result ThreadsLine Cause
with_end (Ok within) step = step within
with_end (Err cause) step = Err cause

-- so many messages are sent, of this type and length
abbrev pub put_of : ℕ → List (List ℕ) → Result ThreadsLine Cause
put_of n (id ∷ mtype ∷ count ∷ len ∷ words) = with_end (within_of words) (λ w. do
  i ← under (2 ^ 32) (number_of id)
  z ← integer_of mtype
  c ← under (MAX_MESSAGES + 1) (number_of count)
  l ← number_of len
  Ok (Section (Put i z c l w n)))
put_of n _ = Err Words

-- so many are received
abbrev pub take_of : ℕ → List (List ℕ) → Result ThreadsLine Cause
take_of n (id ∷ mtype ∷ count ∷ words) = with_end (within_of words) (λ w. do
  i ← under (2 ^ 32) (number_of id)
  z ← integer_of mtype
  c ← under (MAX_MESSAGES + 1) (number_of count)
  Ok (Section (Take i z c w n)))
take_of n _ = Err Words

-- the queue is removed
abbrev pub drop_of : ℕ → List (List ℕ) → Result ThreadsLine Cause
drop_of n (id ∷ []) = under (2 ^ 32) (number_of id) >>= λ i. Ok (Section (Remove i n))
drop_of n _ = Err Words

-- the lines of a section
abbrev pub section_of : ℕ → List ℕ → List (List ℕ) → Result ThreadsLine Cause
section_of n name words =
    if bytes_eq name (codes "put") then put_of n words
    else (if bytes_eq name (codes "take") then take_of n words
    else (if bytes_eq name (codes "rm") then drop_of n words
    else Err Words))

-- a section begins, where no more than the most were begun
abbrev pub worker_of : ℕ → List (List ℕ) → Result ThreadsLine Cause
worker_of sections [] = if nat_lt sections MAX_WORKERS then Ok Worker else Err Words
worker_of sections _ = Err Words

-- a line is of the main part before the first section begins, and else of a section
abbrev pub part_of : ℕ → ℕ → List ℕ → List (List ℕ) → Result ThreadsLine Cause
part_of sections n name words =
    if bytes_eq name (codes "worker") then worker_of sections words
    else (if sections == 0 then main_of n name words else section_of n name words)

-- what the words of line n say, where so many sections were begun; none of them is empty
abbrev pub line_said : ℕ → ℕ → List (List ℕ) → Result ThreadsLine Cause
line_said sections n [] = Err Words
line_said sections n (name ∷ words) =
    if list_all is_filled (name ∷ words) then part_of sections n name words else Err Words

-- what line n says: nothing, a line of its part, or the first cause why it is not well formed
abbrev pub threads_reading : ℕ → ℕ → List ℕ → Result (Option ThreadsLine) Cause
threads_reading sections n line = reading_by (line_said sections n) line

-- what a script asks for: the calls of the main part, and the steps of each section
pub record Wanted : Type 0 where
  pub calls : List MainCall
  pub sections : List (List Step)

abbrev pub nothing : Wanted
nothing = record { calls = []; sections = [] }

-- one step more in the last section
abbrev pub onto_last : Step → List (List Step) → List (List Step)
onto_last step [] = []
onto_last step (section ∷ []) = (section ++ step ∷ []) ∷ []
onto_last step (section ∷ next ∷ sections) = section ∷ onto_last step (next ∷ sections)

-- what is asked for with one line more
abbrev pub with_line : Wanted → ThreadsLine → Wanted
with_line w Worker = record { calls = w.calls; sections = w.sections ++ [] ∷ [] }
with_line w (Main call) = record { calls = w.calls ++ call ∷ []; sections = w.sections }
with_line w (Section step) = record { calls = w.calls; sections = onto_last step w.sections }

-- the rest of a script, or the number of a line that is not well formed, and its cause
abbrev pub reads_on : ℕ → Wanted → Result (Option ThreadsLine) Cause
    → (Wanted → Result Wanted (ℕ × Cause)) → Result Wanted (ℕ × Cause)
reads_on n w (Ok None) rest = rest w
reads_on n w (Ok (Some line)) rest = rest (with_line w line)
reads_on n w (Err cause) rest = Err (n, cause)

unfoldable pub wanted_from : ℕ → Wanted → List (List ℕ) → Result Wanted (ℕ × Cause)
wanted_from n w [] = Ok w
wanted_from n w (line ∷ lines) =
    reads_on n w (threads_reading (length w.sections) n line)
    (λ more. wanted_from (n + 1) more lines)

-- what a script asks for, or the first line of it that is not well formed, with its cause
abbrev pub wanted_of : List ℕ → Result Wanted (ℕ × Cause)
wanted_of script = wanted_from 1 nothing (lines_of script)
