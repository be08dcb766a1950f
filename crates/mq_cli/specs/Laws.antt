-- The spelling of a command, which is its only line, and that cuts change no other line.
use Rattle.std.specs.Prelude.{◌≡◌, ◌<◌, ◌≤◌, ◌^◌, ℕ, Bool, true, false, IsTrue, FitsSigned, List}
use Rattle.std.specs.Prelude.{[], ◌∷◌, length, codes, Some, Ok}
use Rattle.std.specs.Fmt.{decimal, signed_decimal}
use Rattle.std.specs.Int.{w32, w64}
use Rattle.std.specs.List.{flat_map, list_all}
use Rattle.mq_table.specs.declared.limits.TheConstants.{MAX_SLOTS}
use Rattle.mq_calls.specs.declared.config.Config.{Config}
use Rattle.mq_calls.specs.declared.limits.TheConstants.{MAX_SEATS}
use Rattle.mq_cli.specs.declared.limits.TheConstants.{LINE_LIMIT}
use Rattle.mq_cli.specs.declared.listing.Listing.{Listing}
use Rattle.mq_cli.specs.declared.listing.Listing.TheVariants.{Limits, Queues, Table}
use Rattle.mq_cli.specs.Commands.{AskedCall, sit, show, get, snd, rcv, set, rm, stat, cut, ipcs, info}
use Rattle.mq_cli.specs.Commands.{AskedText, plain, letters, reading}
use Rattle.mq_cli.specs.Cuts.{texts_from, texts_of_others, without_cuts}
use Rattle.mq_cli.specs.Lines.{line_of, is_printable}
use Rattle.mq_cli.specs.Session.{first_session}
use Rattle.mq_cli.specs.Transcript.{run_from}
use Rattle.mq_trace.specs.declared.ipcs.Keys.TheVariants.{Decimal, Hexadecimal}

-- a text has `=` before it, a number of letters `*`
abbrev pub text_spelling : AskedText → List ℕ
text_spelling (plain bytes) = 61 ∷ bytes
text_spelling (letters count) = 42 ∷ decimal count

-- the word for the flags, where one is set
abbrev pub flag_words : Bool → Bool → List (List ℕ)
flag_words false false = []
flag_words true false = codes "e" ∷ []
flag_words false true = codes "n" ∷ []
flag_words true true = codes "en" ∷ []

abbrev pub get_flag_words : Bool → Bool → List (List ℕ)
get_flag_words false false = []
get_flag_words true false = codes "c" ∷ []
get_flag_words false true = codes "x" ∷ []
get_flag_words true true = codes "cx" ∷ []

-- the options of a listing
abbrev pub listing_words : Listing → List (List ℕ)
listing_words Table = []
listing_words (Queues Decimal) = codes "-q" ∷ []
listing_words (Queues Hexadecimal) = codes "-q" ∷ codes "x" ∷ []
listing_words Limits = codes "-l" ∷ []

-- the one line that asks for a call
abbrev pub spelling : AskedCall → List ℕ
spelling (sit number) = line_of (codes "seat" ∷ decimal number ∷ [])
spelling show = codes "arena"
spelling (get key flags) =
    line_of (codes "get" ∷ signed_decimal key ∷ get_flag_words flags.create flags.exclusive)
spelling (snd id mtype text) =
    line_of (codes "snd" ∷ decimal id ∷ signed_decimal mtype ∷ text_spelling text ∷ [])
spelling (rcv id size mtype except noerror) =
    line_of (codes "rcv" ∷ decimal id ∷ decimal size ∷ signed_decimal mtype
    ∷ flag_words except noerror)
spelling (set id qbytes) = line_of (codes "set" ∷ decimal id ∷ decimal qbytes ∷ [])
spelling (rm id) = line_of (codes "rm" ∷ decimal id ∷ [])
spelling (stat id) = line_of (codes "stat" ∷ decimal id ∷ [])
spelling (cut slot) = line_of (codes "cut" ∷ decimal slot ∷ [])
spelling (ipcs listing) = line_of (codes "ipcs" ∷ listing_words listing)
spelling info = codes "info"

-- the calls that a line can ask for: each number is in its range, and a text is printable and
-- leaves the line short enough
abbrev pub CanBeSpelled : AskedCall → Type 0
CanBeSpelled (sit number) = (1 ≤ number) × (number ≤ MAX_SEATS)
CanBeSpelled show = Unit {0}
CanBeSpelled (get key flags) = FitsSigned w32 key
CanBeSpelled (snd id mtype (plain bytes)) =
    (id < 2 ^ 32) × FitsSigned w64 mtype × IsTrue (list_all is_printable bytes)
    × (length (spelling (snd id mtype (plain bytes))) ≤ LINE_LIMIT)
CanBeSpelled (snd id mtype (letters count)) =
    (id < 2 ^ 32) × FitsSigned w64 mtype × (count < 2 ^ 64)
CanBeSpelled (rcv id size mtype except noerror) =
    (id < 2 ^ 32) × (size < 2 ^ 64) × FitsSigned w64 mtype
CanBeSpelled (set id qbytes) = (id < 2 ^ 32) × (qbytes < 2 ^ 64)
CanBeSpelled (rm id) = id < 2 ^ 32
CanBeSpelled (stat id) = id < 2 ^ 32
CanBeSpelled (cut slot) = slot < MAX_SLOTS
CanBeSpelled (ipcs listing) = Unit {0}
CanBeSpelled info = Unit {0}

-- the line asks for the call, in the one way
abbrev pub Spells : List ℕ → AskedCall → Type 0
Spells line call = (line ≡ spelling call) × CanBeSpelled call

-- each call that can be spelled is read back from its line
abbrev pub ReadsBack : Type 0
ReadsBack = (call : AskedCall) → CanBeSpelled call → reading (spelling call) ≡ Ok (Some call)

-- a call is read from no other line
abbrev pub SpelledOneWay : Type 0
SpelledOneWay =
    (line : List ℕ) (call : AskedCall) → reading line ≡ Ok (Some call) → Spells line call

-- a run of these lines writes what each of them writes, one after another; and with a comment in
-- the place of each cut every other line writes the same, and the fault is the same
pub record CutsChangeNoOther (config : Config) (lines : List (List ℕ)) : Type 0 where
  pub whole : (run_from 1 (first_session config) lines).written
      ≡ flat_map (λ text. text) (texts_from 1 (first_session config) lines)
  pub texts : texts_from 1 (first_session config) (without_cuts lines)
      ≡ texts_of_others lines (texts_from 1 (first_session config) lines)
  pub fault : (run_from 1 (first_session config) (without_cuts lines)).fault
      ≡ (run_from 1 (first_session config) lines).fault

-- and so it is over each system and for all lines
abbrev pub CutChangesNoOtherLine : Type 0
CutChangesNoOtherLine = (config : Config) (lines : List (List ℕ)) → CutsChangeNoOther config lines
