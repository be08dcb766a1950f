-- What is answered to lines that are typed one after another.
use Rattle.std.specs.Prelude.{◌≡◌, ◌<◌, ◌≤◌, ℕ, ◌+◌, Bool, true, false, List, [], ◌∷◌, ◌++◌, length}
use Rattle.std.specs.Prelude.{slice_index_or, codes, Option, Some, IfSome, OnOk, Result, Ok, Err}
use Rattle.std.specs.Fmt.{decimal}
use Rattle.std.specs.Io.BufRead.{drop_through}
use Rattle.std.specs.Io.KnownBytes.{Appends}
use Rattle.std.specs.declared.io.ErrorKind.{ErrorKind}
use Rattle.std.specs.declared.io.ErrorKind.TheVariants.{OutOfMemory}
use Rattle.mq_calls.specs.declared.config.Config.{Config}
use Rattle.mq_cli.specs.declared.fault.Cause.{Cause}
use Rattle.mq_cli.specs.declared.fault.Cause.TheVariants.{Long, Byte, Words, Number}
use Rattle.mq_cli.specs.declared.fault.RunFault.{RunFault}
use Rattle.mq_cli.specs.declared.fault.RunFault.TheVariants.{Size, Read, Write, Memory}
use Rattle.mq_cli.specs.declared.limits.TheConstants.{TYPED_LIMIT}
use Rattle.mq_cli.specs.Commands.{reading}
use Rattle.mq_cli.specs.Lines.{lines_of}
use Rattle.mq_cli.specs.Serial.{AppendsPrefix, Writes}
use Rattle.mq_cli.specs.Session.{SessionState, first_session}
use Rattle.mq_cli.specs.Transcript.{said}

-- the word of a cause
abbrev pub cause_name : Cause → List ℕ
cause_name Long = codes "long"
cause_name Byte = codes "byte"
cause_name Words = codes "words"
cause_name Number = codes "number"

-- what names line n, and why it is not well formed
abbrev pub fault_line : ℕ → Cause → List ℕ
fault_line n cause = codes "line " ++ decimal n ++ codes ": " ++ cause_name cause ++ 10 ∷ []

-- a line that is not well formed is named, and changes nothing
abbrev pub or_named : ℕ → SessionState → Result (List ℕ × SessionState) Cause
    → List ℕ × SessionState
or_named n s (Ok turn) = turn
or_named n s (Err cause) = (fault_line n cause, s)

-- what line n is answered, and the state after it
abbrev pub answer_of : ℕ → SessionState → List ℕ → List ℕ × SessionState
answer_of n s line = or_named n s (said n s (reading line))

-- what the lines from line n on are answered
unfoldable pub answers_from : ℕ → SessionState → List (List ℕ) → List ℕ
answers_from n s [] = []
answers_from n s (line ∷ lines) =
    (answer_of n s line).0 ++ answers_from (n + 1) (answer_of n s line).1 lines

-- what all that is typed is answered, over a system of this size
abbrev pub answers_to : Config → List ℕ → List ℕ
answers_to config text = answers_from 1 (first_session config) (lines_of text)

-- the writer took an answer, which leaves the state s, or a prefix of it
abbrev pub WritesAnswer : Option (List ℕ) → Option (List ℕ) → List ℕ × SessionState → SessionState
    → Result (Unit {0}) RunFault → Type 0
WritesAnswer old new turn s outcome = OnOk outcome (s ≡ turn.1) × Writes old new turn.0 outcome

-- the first line of a text
abbrev pub first_line_of : List ℕ → List ℕ
first_line_of text = slice_index_or (lines_of text) 0 []

-- the fault of a read that failed
abbrev pub read_fault_of : ErrorKind → RunFault
read_fault_of OutOfMemory = Memory
read_fault_of _ = Read

-- the faults of one line that is typed
abbrev pub IsLineFault : RunFault → Type 0
IsLineFault Read = Unit {0}
IsLineFault Write = Unit {0}
IsLineFault Memory = Unit {0}
IsLineFault _ = ⊥

-- the faults of a run whose lines are typed: theirs, or that they cannot be counted
abbrev pub IsPromptFault : Option (List ℕ) → RunFault → Type 0
IsPromptFault typed Size = IfSome typed (λ text. TYPED_LIMIT ≤ length (lines_of text) + 1)
IsPromptFault typed fault = IsLineFault fault

-- the first line of what was to be read is read and answered as line n, or nothing was left
abbrev pub AnswersNext : Option (List ℕ) → Option (List ℕ) → Option (List ℕ) → Option (List ℕ)
    → ℕ → SessionState → SessionState → Result Bool RunFault → Type 0
AnswersNext read left old new n s t (Ok true) = IfSome read (λ text.
    (0 < length text) × (left ≡ Some (drop_through 10 text))
    × (t ≡ (answer_of n s (first_line_of text)).1)
    × Appends old new (answer_of n s (first_line_of text)).0)
AnswersNext read left old new n s t (Ok false) = IfSome read (λ text.
    (text ≡ []) × (left ≡ Some []) × Appends old new [])
AnswersNext read left old new n s t (Err fault) = IsLineFault fault × IfSome read (λ text.
    AppendsPrefix old new (answer_of n s (first_line_of text)).0)

-- all that was typed is read and answered so, or a prefix of the answers was written
abbrev pub AnswersAll : (List ℕ → List ℕ) → Option (List ℕ) → Option (List ℕ) → Option (List ℕ)
    → Option (List ℕ) → Result (Unit {0}) RunFault → Type 0
AnswersAll answers typed left old new (Ok _) = IfSome typed (λ text.
    (left ≡ Some []) × Appends old new (answers text))
AnswersAll answers typed left old new (Err fault) = IsPromptFault typed fault
    × IfSome typed (λ text. AppendsPrefix old new (answers text))
