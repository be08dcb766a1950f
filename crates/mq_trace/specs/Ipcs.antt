-- What ipcs(1) of util-linux writes of queues: the table of `ipcs -q`, and the part of `ipcs -l`
-- that is about them.
use Rattle.std.specs.Prelude.{ℕ, ℤ, ◌+◌, ◌-◌, ◌/◌, ◌%◌, ◌^◌, if◌then◌else◌, List, [], ◌∷◌, ◌++◌}
use Rattle.std.specs.Prelude.{length, map, replicate, codes, false}
use Rattle.std.specs.Fmt.{decimal, digit_glyph, signed_decimal}
use Rattle.std.specs.Int.{cast_unsigned, w32}
use Rattle.mq_queue.specs.declared.figures.BoardRow.{BoardRow}
use Rattle.mq_queue.specs.declared.limits.TheConstants.{MSGMAX, MSGMNB}
use Rattle.mq_table.specs.Ids.{id_of}
use Rattle.mq_trace.specs.declared.ipcs.Keys.{Keys}
use Rattle.mq_trace.specs.declared.ipcs.Keys.TheVariants.{Decimal, Hexadecimal}

-- a text at the left end of its column, whose width it may exceed
abbrev pub left_aligned : ℕ → List ℕ → List ℕ
left_aligned width text = text ++ replicate (width - length text) 32

-- the same, and the space before the next column
abbrev pub column : ℕ → List ℕ → List ℕ
column width text = left_aligned width text ++ 32 ∷ []

-- the last digit of a number in hexadecimal
abbrev pub hex_digit : ℕ → ℕ
hex_digit n = digit_glyph false (n % 16)

-- a number below 2 ^ 32 in eight digits
unfoldable pub eight_digits : ℕ → List ℕ
eight_digits n = map hex_digit
    (n / 16 ^ 7 ∷ n / 16 ^ 6 ∷ n / 16 ^ 5 ∷ n / 16 ^ 4 ∷ n / 16 ^ 3 ∷ n / 16 ^ 2 ∷ n / 16 ∷ n ∷ [])

-- a key in its column: in hexadecimal the bits of its i32, which fill it
abbrev pub key_column : Keys → ℤ → List ℕ
key_column Decimal key = left_aligned 10 (signed_decimal key)
key_column Hexadecimal key = codes "0x" ++ eight_digits (cast_unsigned w32 key)

-- a blank line, the title, and the names of the columns
unfoldable pub queues_head : List ℕ
queues_head =
    codes "\n------ Message Queues --------\n" ++ column 10 (codes "key")
    ++ column 10 (codes "msqid") ++ column 10 (codes "owner") ++ column 10 (codes "perms")
    ++ column 12 (codes "used-bytes") ++ left_aligned 12 (codes "messages") ++ 10 ∷ []

-- which queue it is
unfoldable pub queue_named : Keys → ℕ → BoardRow → List ℕ
queue_named keys slot r =
    key_column keys r.key ++ 32 ∷ column 10 (decimal (id_of slot (r.made - 1)))

-- it has no owner, and each seat may send and receive
unfoldable pub queue_access : List ℕ
queue_access = column 10 (codes "-") ++ column 10 (codes "666")

-- what is pending in it
unfoldable pub queue_filled : BoardRow → List ℕ
queue_filled r =
    column 12 (decimal r.figures.cbytes) ++ left_aligned 12 (decimal r.figures.qnum) ++ 10 ∷ []

-- the line of a slot, where it has a live queue
abbrev pub queue_row : Keys → ℕ → BoardRow → List ℕ
queue_row keys slot r =
    if r.live then queue_named keys slot r ++ queue_access ++ queue_filled r else []

-- the lines of these slots, the first of which has this number
abbrev pub queue_rows : Keys → ℕ → List BoardRow → List ℕ
queue_rows keys slot [] = []
queue_rows keys slot (r ∷ rows) = queue_row keys slot r ++ queue_rows keys (slot + 1) rows

-- the table, which ends with a blank line
abbrev pub queues_table : Keys → List BoardRow → List ℕ
queues_table keys rows = queues_head ++ queue_rows keys 0 rows ++ 10 ∷ []

-- a blank line, the title, and the limits with so many slots, but for the end of the last line
unfoldable pub limit_lines : ℕ → List ℕ
limit_lines slots =
    codes "\n------ Messages Limits --------\nmax queues system wide = " ++ decimal slots
    ++ codes "\nmax size of message (bytes) = " ++ decimal MSGMAX
    ++ codes "\ndefault max size of queue (bytes) = " ++ decimal MSGMNB

-- the same, which ends with a blank line
abbrev pub limits_table : ℕ → List ℕ
limits_table slots = limit_lines slots ++ 10 ∷ 10 ∷ []
