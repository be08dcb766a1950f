-- What `ipcs` shows: the table of the live queues, and the tables of ipcs(1).
use Rattle.std.specs.Prelude.{ℕ, ◌+◌, ◌-◌, ◌<◌, ◌≤◌, if◌then◌else◌, List, [], ◌∷◌, ◌++◌, length}
use Rattle.std.specs.Prelude.{replicate, codes}
use Rattle.std.specs.Fmt.{decimal, signed_decimal}
use Rattle.std.specs.List.{flat_map, range_with_len}
use Rattle.mq_queue.specs.declared.figures.BoardRow.{BoardRow}
use Rattle.mq_table.specs.Ids.{id_of}
use Rattle.mq_table.specs.KeptShown.{row_now}
use Rattle.mq_table.specs.declared.limits.TheConstants.{MAX_SEQ, MAX_SLOTS}
use Rattle.mq_calls.specs.State.{QueuesState, slot_at}
use Rattle.mq_trace.specs.Ipcs.{limit_lines, queue_row, queues_head}
use Rattle.mq_cli.specs.declared.listing.Listing.{Listing}
use Rattle.mq_cli.specs.declared.listing.Listing.TheVariants.{Limits, Queues, Table}

-- a text at the right end of its column
abbrev pub right_aligned : ℕ → List ℕ → List ℕ
right_aligned width text = replicate (width - length text) 32 ++ text

-- the names of the columns
unfoldable pub header : List ℕ
header =
    right_aligned 4 (codes "slot") ++ right_aligned 8 (codes "id") ++ right_aligned 12 (codes "key")
    ++ right_aligned 7 (codes "qnum") ++ right_aligned 8 (codes "cbytes")
    ++ right_aligned 8 (codes "qbytes") ++ right_aligned 6 (codes "lspid")
    ++ right_aligned 6 (codes "lrpid")

-- a row of a slot, whose numbers are in the range of an id
pub record IsRow (number : ℕ) (row : BoardRow) : Type 0 where
  pub slot : number < MAX_SLOTS
  pub made : row.made ≤ MAX_SEQ + 1

-- where a live queue is, and what it holds
unfoldable pub named_of : ℕ → BoardRow → List ℕ
named_of slot r =
    right_aligned 4 (decimal slot) ++ right_aligned 8 (decimal (id_of slot (r.made - 1)))
    ++ right_aligned 12 (signed_decimal r.key)

unfoldable pub filled_of : BoardRow → List ℕ
filled_of r =
    right_aligned 7 (decimal r.figures.qnum) ++ right_aligned 8 (decimal r.figures.cbytes)
    ++ right_aligned 8 (decimal r.figures.qbytes) ++ right_aligned 6 (decimal r.figures.lspid)
    ++ right_aligned 6 (decimal r.figures.lrpid)

-- the line of a slot, where it has a live queue
abbrev pub line_of_row : ℕ → BoardRow → List ℕ
line_of_row slot r = if r.live then 10 ∷ named_of slot r ++ filled_of r else []

-- what is written of the first slots, of each by its number and its row
abbrev pub rows_to : (ℕ → BoardRow → List ℕ) → QueuesState → ℕ → List ℕ
rows_to line s count = flat_map (λ k. line k (row_now (slot_at s k))) (range_with_len 0 count)

-- all that is listed, but for the end of its last line
abbrev pub listing_text : Listing → QueuesState → List ℕ
listing_text Table s = header ++ rows_to line_of_row s (length s.slots)
listing_text (Queues keys) s = queues_head ++ rows_to (queue_row keys) s (length s.slots)
listing_text Limits s = limit_lines (length s.slots) ++ 10 ∷ []
