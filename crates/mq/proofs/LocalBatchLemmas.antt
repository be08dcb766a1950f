-- Letters that one thread sends one after another.
use Rattle.std.proofs.Common.{◌≡◌, ℕ, List, [], ◌∷◌, ◌++◌, Option, Some, Ok, ap, ◌∙◌}
use Rattle.std.specs.List.{FoldsTo}
use Rattle.core.specs.Option.{option_or}
use Rattle.mq_arena.specs.Text.{PlainText}
use Rattle.mq_calls.specs.State.{QueuesState}
use Rattle.mq_system.specs.declared.many.Letter.{Letter}
use Rattle.mq.specs.LocalBatches.{IsFirstEntryOf, SendsLetter, sends_letter}

-- one more letter is sent: its entry is the first only where none was sent before
pub entry_more : (seat id moment : ℕ) (start now after : QueuesState) (sent : List (Letter PlainText))
    (l : Letter PlainText) (first : Option ℕ) (entry : ℕ)
    → IsFirstEntryOf seat id moment start sent first
    → FoldsTo (SendsLetter seat id moment) start sent now
    → sends_letter seat id moment l now ≡ Ok (entry, after)
    → IsFirstEntryOf seat id moment start (sent ++ l ∷ []) (option_or first (Some entry))
entry_more seat id moment start now after [] l first entry is turns told =
    (entry, ap (λ o. option_or o (Some entry)) is, (after, ap (sends_letter seat id moment l) turns ∙ told))
entry_more seat id moment start now after (s ∷ ss) l first entry is turns told =
    (is.0, ap (λ o. option_or o (Some entry)) is.1, is.2)
