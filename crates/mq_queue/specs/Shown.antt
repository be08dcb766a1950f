-- How an event, figures and a row are printed: words `name=value`, by the names of msgctl(2).
use Rattle.std.specs.Prelude.{ℕ, Bool, if◌then◌else◌, List, [], ◌∷◌, ◌++◌, codes}
use Rattle.std.specs.Fmt.{decimal, signed_decimal}
use Rattle.mq_message.specs.Shown.{selection_text}
use Rattle.mq_queue.specs.declared.event.Event.{Event}
use Rattle.mq_queue.specs.declared.event.Event.TheVariants.{Made, Sent, Received, Changed, Removed}
use Rattle.mq_queue.specs.declared.figures.BoardRow.{BoardRow}
use Rattle.mq_queue.specs.declared.figures.Figures.{Figures}

-- the parts of a text, one after another
abbrev pub joined : List (List ℕ) → List ℕ
joined [] = []
joined (part ∷ []) = part
joined (part ∷ next ∷ parts) = part ++ joined (next ∷ parts)

-- whether something is so, as `true` or `false`
abbrev pub bool_text : Bool → List ℕ
bool_text b = if b then codes "true" else codes "false"

-- an event in words: what happened, by whom and when, and with which values
abbrev pub event_text : Event → List ℕ
event_text (Made seat moment key) = joined
    (codes "made seat=" ∷ decimal seat ∷ codes " moment=" ∷ decimal moment
    ∷ codes " key=" ∷ signed_decimal key ∷ [])
event_text (Sent seat moment tag mtype n) = joined
    (codes "sent seat=" ∷ decimal seat ∷ codes " moment=" ∷ decimal moment
    ∷ codes " type=" ∷ signed_decimal mtype ∷ codes " length=" ∷ decimal n
    ∷ codes " tag=" ∷ decimal tag ∷ [])
event_text (Received seat noerror moment place selection size) = joined
    (codes "received seat=" ∷ decimal seat ∷ codes " moment=" ∷ decimal moment
    ∷ codes " place=" ∷ decimal place ∷ codes " size=" ∷ decimal size
    ∷ codes " noerror=" ∷ bool_text noerror ∷ codes " selection=" ∷ selection_text selection
    ∷ [])
event_text (Changed seat moment qbytes) = joined
    (codes "changed seat=" ∷ decimal seat ∷ codes " moment=" ∷ decimal moment
    ∷ codes " qbytes=" ∷ decimal qbytes ∷ [])
event_text (Removed seat moment) = joined
    (codes "removed seat=" ∷ decimal seat ∷ codes " moment=" ∷ decimal moment ∷ [])

-- figures in words (msgctl(2), IPC_STAT)
abbrev pub figures_text : Figures → List ℕ
figures_text f = joined
    (codes "qnum=" ∷ decimal f.qnum ∷ codes " cbytes=" ∷ decimal f.cbytes
    ∷ codes " qbytes=" ∷ decimal f.qbytes ∷ codes " lspid=" ∷ decimal f.lspid
    ∷ codes " lrpid=" ∷ decimal f.lrpid ∷ codes " stime=" ∷ decimal f.stime
    ∷ codes " rtime=" ∷ decimal f.rtime ∷ codes " ctime=" ∷ decimal f.ctime ∷ [])

-- a row in words: what is known of the slot, and then its figures
abbrev pub row_text : BoardRow → List ℕ
row_text row = joined
    (codes "made=" ∷ decimal row.made ∷ codes " live=" ∷ bool_text row.live
    ∷ codes " key=" ∷ signed_decimal row.key ∷ codes " " ∷ figures_text row.figures ∷ [])
