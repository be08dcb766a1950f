-- Free blocks that a magazine caches for the next drafts.
use Rattle.std.specs.Prelude.{◌≡◌, ℕ, ◌≤◌, ◌++◌, List, reverse}
use Rattle.mq_arena.specs.OwnedBlock.{OwnedBlock}
use Rattle.mq_arena.specs.Account.{pages_of}
use Rattle.mq_arena.specs.declared.magazine.TheConstants.{MAGAZINE_PAGES}

-- the pages are counted, no more than a magazine may keep, and there is a place for each
pub record IsMagazine (blocks : List OwnedBlock) (pages places : ℕ) : Type 0 where
  pub counted : pages ≡ pages_of blocks
  pub few : pages ≤ MAGAZINE_PAGES
  pub room : MAGAZINE_PAGES ≤ places

-- blocks moved from the end of a list to the end of another, one after another
pub record HasMoved (old new other_old other_new : List OwnedBlock) : Type 0 where
  pub moved : List OwnedBlock
  pub out : old ≡ new ++ moved
  pub in_order : other_new ≡ other_old ++ reverse moved
