-- What the options of the command line mean.
use Rattle.std.specs.Prelude.{◌≡◌, ◌≤◌, ℕ, List, Option, Some, None, if◌then◌else◌, codes}
use Rattle.std.specs.Prelude.{false}
use Rattle.std.specs.Str.{bytes_eq}
use Rattle.std.specs.Str.Parse.{IsNumeral, digits_value, without_leading_plus}
use Rattle.mq_calls.specs.declared.config.Config.{Config}
use Rattle.mqsim.specs.declared.command_line.Kind.TheVariants.{Serial}
use Rattle.mqsim.specs.declared.command_line.Output.TheVariants.{Answers}
use Rattle.mqsim.specs.declared.command_line.Request.{Request}

-- the size of a run that is given none
abbrev pub defaults : Config
defaults = record { height = 6; slots = 16; seats = 16; last_seq = 32767 }

-- what no words at all ask for
abbrev pub bare_request : Request
bare_request = record {
  task = record { kind = Serial; output = Answers; config = defaults };
  script = None;
  prompt = false;
}

-- the number that a text spells, with or without a plus before it
abbrev pub number_in : List ℕ → ℕ
number_in text = digits_value 10 (without_leading_plus text)

-- a text spells a number of this range
abbrev pub IsIn : ℕ → ℕ → List ℕ → Type 0
IsIn least most text =
    IsNumeral 10 (without_leading_plus text) × (least ≤ number_in text) × (number_in text ≤ most)

-- the value of an option of this range: the default where it is not given, and else its number
abbrev pub Means : ℕ → ℕ → ℕ → Option (List ℕ) → ℕ → Type 0
Means least most standard None value = value ≡ standard
Means least most standard (Some text) value = IsIn least most text → value ≡ number_in text

-- the size that the texts of the options give
pub record AreOptions (given : List ℕ → Option (List ℕ)) (config : Config) : Type 0 where
  pub height : Means 0 10 6 (given (codes "height")) config.height
  pub slots : Means 1 64 16 (given (codes "slots")) config.slots
  pub last_seq : Means 0 32767 32767 (given (codes "last-seq")) config.last_seq

-- the file that a word names: - alone is standard input, and so is no word
abbrev pub file_named : Option (List ℕ) → Option (List ℕ)
file_named None = None
file_named (Some name) = if bytes_eq name (codes "-") then None else Some name
