-- What a page and a block are once a mutable borrow of their bytes ends.
use Rattle.std.specs.Prelude.{ℕ, List, [], length, slice_index_or, slice_set}
use Rattle.std.specs.List.{refill}
use Rattle.std.specs.Borrow.{Lends, MutBor, Fml, Array, RattleType, u8}
use Rattle.std.specs.declared.sync.ledger.Ledger.{Ghosts}
use Rattle.mq_arena.specs.OwnedBlock.{OwnedBlock}
use Rattle.mq_arena.specs.contracts.page.Page as page
use Rattle.mq_arena.specs.contracts.block.Block as block

-- the page ends with the bytes that were left in it, and keeps its length
abbrev pub LendsPage : MutBor (List ℕ) → MutBor (List ℕ) → Fml
LendsPage p r = Lends page.the_row (Array u8 0) p r (refill (length p.now) p.now)

-- pages with these bytes in page i
abbrev pub with_page_left : List (List ℕ) → ℕ → List ℕ → List (List ℕ)
with_page_left pages i bytes =
    let old = slice_index_or pages i [] in slice_set pages i (refill (length old) old bytes)

module _ (L : RattleType) (ledger : Ghosts L.Denot) (b : MutBor OwnedBlock) where
  -- the block ends with the bytes that were left in page i
  abbrev pub LendsBlockPage : ℕ → MutBor (List ℕ) → Fml
  LendsBlockPage i r =
      Lends (block.the_row L ledger) (Array u8 0) b r
      (λ bytes. record b.now { pages = with_page_left b.now.pages i bytes })
