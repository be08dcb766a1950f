-- The commands, and the lines that ask for them.
use Rattle.std.specs.Prelude.{ℕ, ℤ, Bool, true, false, ◌+◌, ◌^◌, ◌==◌, nat_lt, ◌&&◌, ◌||◌, not}
use Rattle.std.specs.Prelude.{if◌then◌else◌, List, [], ◌∷◌, length, drop, slice_index_or, codes}
use Rattle.std.specs.Prelude.{Option, Some, None, Result, Ok, Err}
use Rattle.std.specs.List.{list_all, list_any}
use Rattle.std.specs.Option.{option_map}
use Rattle.std.specs.Str.{bytes_eq}
use Rattle.mq_table.specs.declared.limits.TheConstants.{MAX_SLOTS}
use Rattle.mq_calls.specs.declared.limits.TheConstants.{MAX_SEATS}
use Rattle.mq_calls.specs.declared.results.GetFlags.{GetFlags}
use Rattle.mq_cli.specs.declared.limits.TheConstants.{LINE_LIMIT}
use Rattle.mq_cli.specs.declared.fault.Cause.{Cause}
use Rattle.mq_cli.specs.declared.fault.Cause.TheVariants.{Long, Byte, Words, Number}
use Rattle.mq_cli.specs.declared.listing.Listing.{Listing}
use Rattle.mq_cli.specs.declared.listing.Listing.TheVariants.{Limits, Queues, Table}
use Rattle.mq_cli.specs.Lines.{line_of, words_of, is_printable}
use Rattle.mq_cli.specs.Numbers.{number_of, integer_of, key_of, under, above_zero}
use Rattle.mq_trace.specs.declared.ipcs.Keys.TheVariants.{Decimal, Hexadecimal}

-- the text of a message: these bytes, or that many letters
pub data AskedText : Type 0 where
  plain : (bytes : List ℕ) → AskedText
  letters : (count : ℕ) → AskedText

-- what a line asks for
pub data AskedCall : Type 0 where
  sit : (number : ℕ) → AskedCall
  show : AskedCall
  get : (key : ℤ) (flags : GetFlags) → AskedCall
  snd : (id : ℕ) (mtype : ℤ) (text : AskedText) → AskedCall
  rcv : (id size : ℕ) (mtype : ℤ) (except noerror : Bool) → AskedCall
  set : (id qbytes : ℕ) → AskedCall
  rm : (id : ℕ) → AskedCall
  stat : (id : ℕ) → AskedCall
  cut : (slot : ℕ) → AskedCall
  ipcs : (listing : Listing) → AskedCall
  info : AskedCall

-- what was read, seen by f
abbrev pub ok_map : {A B : Type 0} → (A → B) → Result A Cause → Result B Cause
ok_map f (Ok x) = Ok (f x)
ok_map f (Err cause) = Err cause

-- continues with the number that a word spells, where it spells one in its range
infixl 10 ◌>>=◌
abbrev pub ◌>>=◌ : {A B : Type 0} → Option A → (A → Result B Cause) → Result B Cause
None >>= f = Err Number
(Some x) >>= f = f x

abbrev pub is_filled : List ℕ → Bool
is_filled word = nat_lt 0 (length word)

-- continues with what words say, where they say something
abbrev pub worded : {A B : Type 0} → Option A → (A → Result B Cause) → Result B Cause
worded None f = Err Words
worded (Some x) f = f x

-- the seat that makes the calls from here on
abbrev pub seat_asked : List (List ℕ) → Result AskedCall Cause
seat_asked (word ∷ []) = above_zero (under (MAX_SEATS + 1) (number_of word)) >>= λ n. Ok (sit n)
seat_asked _ = Err Words

-- the arena's figures
abbrev pub arena_asked : List (List ℕ) → Result AskedCall Cause
arena_asked [] = Ok show
arena_asked _ = Err Words

-- IPC_CREAT and IPC_EXCL
abbrev pub get_flags_asked : List (List ℕ) → Option GetFlags
get_flags_asked [] = Some (record { create = false; exclusive = false })
get_flags_asked (word ∷ []) =
    if bytes_eq word (codes "c") then Some (record { create = true; exclusive = false })
    else (if bytes_eq word (codes "x") then Some (record { create = false; exclusive = true })
    else (if bytes_eq word (codes "cx") then Some (record { create = true; exclusive = true })
    else None))
get_flags_asked _ = None

-- msgget
abbrev pub get_asked : List (List ℕ) → Result AskedCall Cause
get_asked (key ∷ flags) =
    worded (get_flags_asked flags) (λ f. key_of key >>= λ k. Ok (get k f))
get_asked _ = Err Words

-- the table of all figures, or what the options of ipcs(1) show of queues
abbrev pub listing_asked : List (List ℕ) → Option Listing
listing_asked [] = Some Table
listing_asked (option ∷ []) =
    if bytes_eq option (codes "-q") then Some (Queues Decimal)
    else (if bytes_eq option (codes "-l") then Some Limits else None)
listing_asked (option ∷ keys ∷ []) =
    if bytes_eq option (codes "-q") && bytes_eq keys (codes "x")
    then Some (Queues Hexadecimal)
    else None
listing_asked _ = None

abbrev pub ipcs_asked : List (List ℕ) → Result AskedCall Cause
ipcs_asked words = worded (listing_asked words) (λ listing. Ok (ipcs listing))

-- what is in use, and the limits
abbrev pub info_asked : List (List ℕ) → Result AskedCall Cause
info_asked [] = Ok info
info_asked _ = Err Words

-- a text is `=` and the rest of the line, spaces and all, or one word that begins with `*`
abbrev pub is_plain : List ℕ → Bool
is_plain text = slice_index_or text 0 0 == 61

abbrev pub is_text : List ℕ → Bool
is_text text =
    is_plain text || ((slice_index_or text 0 0 == 42) && not (list_any (λ b. b == 32) text))

-- the bytes after `=`, or as many letters as the number after `*` says
abbrev pub text_asked : List ℕ → Option AskedText
text_asked text =
    if is_plain text
    then Some (plain (drop 1 text))
    else option_map letters (number_of (drop 1 text))

-- msgsnd
abbrev pub send_asked : List (List ℕ) → Result AskedCall Cause
send_asked (id ∷ mtype ∷ text) =
    if is_filled id && is_filled mtype && is_text (line_of text)
    then (under (2 ^ 32) (number_of id) >>= λ i. integer_of mtype >>= λ z.
    text_asked (line_of text) >>= λ t. Ok (snd i z t))
    else Err Words
send_asked _ = Err Words

-- MSG_EXCEPT and MSG_NOERROR
pub record Flags : Type 0 where
  pub except : Bool
  pub noerror : Bool

abbrev pub flags_asked : List (List ℕ) → Option Flags
flags_asked [] = Some (record { except = false; noerror = false })
flags_asked (word ∷ []) =
    if bytes_eq word (codes "e") then Some (record { except = true; noerror = false })
    else (if bytes_eq word (codes "n") then Some (record { except = false; noerror = true })
    else (if bytes_eq word (codes "en") then Some (record { except = true; noerror = true })
    else None))
flags_asked _ = None

-- msgrcv
abbrev pub receive_asked : List (List ℕ) → Result AskedCall Cause
receive_asked (id ∷ size ∷ mtype ∷ flags) = worded (flags_asked flags) (λ f. do
  i ← under (2 ^ 32) (number_of id)
  s ← number_of size
  z ← integer_of mtype
  Ok (rcv i s z f.except f.noerror))
receive_asked _ = Err Words

-- msgctl: IPC_SET, IPC_RMID and IPC_STAT
abbrev pub set_asked : List (List ℕ) → Result AskedCall Cause
set_asked (id ∷ qbytes ∷ []) =
    under (2 ^ 32) (number_of id) >>= λ i. number_of qbytes >>= λ q. Ok (set i q)
set_asked _ = Err Words

abbrev pub remove_asked : List (List ℕ) → Result AskedCall Cause
remove_asked (id ∷ []) = under (2 ^ 32) (number_of id) >>= λ i. Ok (rm i)
remove_asked _ = Err Words

abbrev pub stat_asked : List (List ℕ) → Result AskedCall Cause
stat_asked (id ∷ []) = under (2 ^ 32) (number_of id) >>= λ i. Ok (stat i)
stat_asked _ = Err Words

-- the log of a slot is drained
abbrev pub cutting_asked : List (List ℕ) → Result AskedCall Cause
cutting_asked (slot ∷ []) = under MAX_SLOTS (number_of slot) >>= λ k. Ok (cut k)
cutting_asked _ = Err Words

-- a command without a text, by its name
abbrev pub command_named : List ℕ → List (List ℕ) → Result AskedCall Cause
command_named name words =
    if bytes_eq name (codes "rcv") then receive_asked words
    else (if bytes_eq name (codes "seat") then seat_asked words
    else (if bytes_eq name (codes "arena") then arena_asked words
    else (if bytes_eq name (codes "get") then get_asked words
    else (if bytes_eq name (codes "set") then set_asked words
    else (if bytes_eq name (codes "rm") then remove_asked words
    else (if bytes_eq name (codes "stat") then stat_asked words
    else (if bytes_eq name (codes "cut") then cutting_asked words
    else (if bytes_eq name (codes "ipcs") then ipcs_asked words
    else (if bytes_eq name (codes "info") then info_asked words
    else Err Words)))))))))

-- a command; the words of all but a text are filled
abbrev pub command_asked : List (List ℕ) → Result AskedCall Cause
command_asked [] = Err Words
command_asked (name ∷ words) =
    if bytes_eq name (codes "snd") then send_asked words
    else (if not (list_all is_filled words) then Err Words else command_named name words)

-- an empty line or a comment
abbrev pub is_skipped : List ℕ → Bool
is_skipped line = (length line == 0) || (slice_index_or line 0 0 == 35)

-- whether a line without its end says something, or the first cause why it is not well formed
-- that is not in its words
abbrev pub speaks : List ℕ → Result Bool Cause
speaks line =
    if nat_lt LINE_LIMIT (length line) then Err Long
    else (if not (list_all is_printable line) then Err Byte
    else Ok (not (is_skipped line)))

-- what a line says where its words are read
abbrev pub spoken : {A : Type 0} → Result Bool Cause → Result A Cause → Result (Option A) Cause
spoken (Ok true) said = ok_map Some said
spoken (Ok false) said = Ok None
spoken (Err cause) said = Err cause

-- the same by what words say: nothing, that, or the first cause why the line is not well formed
abbrev pub reading_by : {A : Type 0} → (List (List ℕ) → Result A Cause) → List ℕ
    → Result (Option A) Cause
reading_by say line = spoken (speaks line) (say (words_of line))

-- what a line of a serial script says
abbrev pub reading : List ℕ → Result (Option AskedCall) Cause
reading line = reading_by command_asked line
