-- What a writer took of a trace.
use Rattle.std.specs.Prelude.{◌≡◌, ℕ, List, ◌++◌, Option, Result, Ok, Err}
use Rattle.std.specs.Io.KnownBytes.{Appends}
use Rattle.mq_trace.specs.Trace.{begun_after, listed}
use Rattle.mq_trace.specs.declared.sheet.Sheet.{Sheet}
use Rattle.mq_trace.specs.declared.trace_error.TraceError.{TraceError}

-- a text begins with this one
abbrev pub IsPrefixOf : List ℕ → List ℕ → Type 0
IsPrefixOf prefix text = (rest : List ℕ) × (text ≡ prefix ++ rest)

-- the writer took a prefix of the text
abbrev pub AppendsPrefix : Option (List ℕ) → Option (List ℕ) → List ℕ → Type 0
AppendsPrefix old new text = (prefix : List ℕ) × IsPrefixOf prefix text × Appends old new prefix

-- the writer took the text, or a prefix of it where a write failed or memory ran out
abbrev pub Writes : Option (List ℕ) → Option (List ℕ) → List ℕ → Result (Unit {0}) TraceError
    → Type 0
Writes old new text (Ok _) = Appends old new text
Writes old new text (Err _) = AppendsPrefix old new text

-- a sheet has these records more
pub record Adds (old new : Sheet) (records : List (List ℕ)) : Type 0 where
  pub text : new.text.items ≡ old.text.items ++ listed old.begun records
  pub begun : new.begun ≡ begun_after old.begun records

-- what was on the sheet, and these records, are what the writer took and what is on the sheet
pub record Wrote (old new : Option (List ℕ)) (before after : Sheet) (records : List (List ℕ))
    : Type 0 where
  pub text : List ℕ
  pub taken : Appends old new text
  pub same : before.text.items ++ listed before.begun records ≡ text ++ after.text.items
  pub begun : after.begun ≡ begun_after before.begun records

-- the same, or the writer took only a prefix
abbrev pub WritesRecords : Option (List ℕ) → Option (List ℕ) → Sheet → Sheet → List (List ℕ)
    → Result (Unit {0}) TraceError → Type 0
WritesRecords old new before after records (Ok _) = Wrote old new before after records
WritesRecords old new before after records (Err _) =
    AppendsPrefix old new (before.text.items ++ listed before.begun records)
