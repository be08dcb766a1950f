-- What a text is once a mutable borrow of one of its parts ends.
use Rattle.std.specs.Prelude.{ℕ, List, length}
use Rattle.std.specs.List.{refill}
use Rattle.std.specs.Borrow.{Lends, MutBor, Fml, Array, RattleType, u8}
use Rattle.std.specs.declared.sync.ledger.Ledger.{Ghosts}
use Rattle.mq_arena.specs.Text.{PlainText, text_part, with_part}
use Rattle.mq_arena.specs.contracts.text.Text as text

-- the text once these bytes were left in part i, which keeps its length
abbrev pub with_left : PlainText → ℕ → List ℕ → PlainText
with_left t i bytes = let old = text_part t.bytes i in with_part t i (refill (length old) old bytes)

module _ (L : RattleType) (ledger : Ghosts L.Denot) (t : MutBor PlainText) where
  -- the text ends with the bytes that were left in part i
  abbrev pub LendsPart : ℕ → MutBor (List ℕ) → Fml
  LendsPart i r = Lends (text.the_row L ledger) (Array u8 0) t r (with_left t.now i)
