-- The spelling of a line of a threads script, which is its only one.
use Rattle.std.specs.Prelude.{◌≡◌, ◌<◌, ◌≤◌, ◌^◌, ℕ, FitsSigned, List, [], ◌∷◌, codes}
use Rattle.std.specs.Prelude.{Option, None, Some, Ok}
use Rattle.std.specs.Fmt.{decimal, signed_decimal}
use Rattle.std.specs.Int.{w64}
use Rattle.mq_cli.specs.declared.limits.TheConstants.{MAX_MESSAGES, MAX_WITHIN, MAX_WORKERS}
use Rattle.mq_cli.specs.declared.threads.step.Step.TheVariants.{Put, Take, Remove}
use Rattle.mq_cli.specs.declared.threads.script.MainCall.{MainCall}
use Rattle.mq_cli.specs.declared.threads.script.MainCall.TheVariants.{Get, Set}
use Rattle.mq_cli.specs.declared.threads.script.ThreadsLine.{ThreadsLine}
use Rattle.mq_cli.specs.declared.threads.script.ThreadsLine.TheVariants.{Worker, Main, Section}
use Rattle.mq_cli.specs.Commands.{AskedCall, get, set}
use Rattle.mq_cli.specs.Laws.{spelling, CanBeSpelled}
use Rattle.mq_cli.specs.Lines.{line_of}
use Rattle.mq_cli.specs.ThreadsScript.{threads_reading}

-- the command of a serial script that makes the same call
abbrev pub call_asked : MainCall → AskedCall
call_asked (Get key flags moment) = get key flags
call_asked (Set id qbytes moment) = set id qbytes

abbrev pub moment_of : MainCall → ℕ
moment_of (Get key flags moment) = moment
moment_of (Set id qbytes moment) = moment

-- the words behind a step's numbers, where its waits have an end
abbrev pub within_words : Option ℕ → List (List ℕ)
within_words None = []
within_words (Some span) = codes "within" ∷ decimal span ∷ []

-- how long the waits of a step may be
abbrev pub CanWait : Option ℕ → Type 0
CanWait None = Unit {0}
CanWait (Some span) = span ≤ MAX_WITHIN

-- the one line that says it
abbrev pub line_spelling : ThreadsLine → List ℕ
line_spelling Worker = codes "worker"
line_spelling (Main call) = spelling (call_asked call)
line_spelling (Section (Put id mtype count len within moment)) =
    line_of (codes "put" ∷ decimal id ∷ signed_decimal mtype ∷ decimal count ∷ decimal len
    ∷ within_words within)
line_spelling (Section (Take id msgtyp count within moment)) =
    line_of (codes "take" ∷ decimal id ∷ signed_decimal msgtyp ∷ decimal count
    ∷ within_words within)
line_spelling (Section (Remove id moment)) = line_of (codes "rm" ∷ decimal id ∷ [])

-- what can stand in line n, where so many sections were begun before: it is of its part, its moment
-- is the line's number, and each other number is in its range
abbrev pub CanStand : ℕ → ℕ → ThreadsLine → Type 0
CanStand sections n Worker = sections < MAX_WORKERS
CanStand sections n (Main call) =
    (sections ≡ 0) × (moment_of call ≡ n) × CanBeSpelled (call_asked call)
CanStand sections n (Section (Put id mtype count len within moment)) =
    (0 < sections) × (moment ≡ n) × (id < 2 ^ 32) × FitsSigned w64 mtype × (count ≤ MAX_MESSAGES)
    × (len < 2 ^ 64) × CanWait within
CanStand sections n (Section (Take id msgtyp count within moment)) =
    (0 < sections) × (moment ≡ n) × (id < 2 ^ 32) × FitsSigned w64 msgtyp × (count ≤ MAX_MESSAGES)
    × CanWait within
CanStand sections n (Section (Remove id moment)) =
    (0 < sections) × (moment ≡ n) × (id < 2 ^ 32)

-- the line says it there, in the one way
abbrev pub Says : ℕ → ℕ → List ℕ → ThreadsLine → Type 0
Says sections n text line = (text ≡ line_spelling line) × CanStand sections n line

-- what can stand there is read back from its spelling
abbrev pub ThreadsReadBack : Type 0
ThreadsReadBack = (sections n : ℕ) (line : ThreadsLine) → CanStand sections n line
    → threads_reading sections n (line_spelling line) ≡ Ok (Some line)

-- and it is read from no other line
abbrev pub ThreadsSpelledOneWay : Type 0
ThreadsSpelledOneWay = (sections n : ℕ) (text : List ℕ) (line : ThreadsLine)
    → threads_reading sections n text ≡ Ok (Some line) → Says sections n text line
