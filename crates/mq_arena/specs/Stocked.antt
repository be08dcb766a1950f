-- The pages of an arena: it holds those of no allocated block, and all are counted.
use Rattle.std.specs.Prelude.{◌≡◌, ℕ, ◌+◌, ◌^◌, ◌<◌, ◌≤◌, List, [], length, replicate, IsTrue}
use Rattle.mq_tree.specs.LentSet.{Lending, IsLentSet, is_free_page, free_pages}
use Rattle.mq_tree.specs.declared.limits.TheConstants.{MAX_HEIGHT}
use Rattle.mq_arena.specs.Homes.{IsHome}
use Rattle.mq_arena.specs.declared.page.TheConstants.{PAGE_LEN}

-- there is an index for each page, and the arena holds each page that is in no allocated block
pub record IsStocked (arena : Lending) (homes : List (List ℕ)) : Type 0 where
  pub lent_set : IsLentSet arena.height arena.lent
  pub long : length homes ≡ 2 ^ arena.height
  pub there : (page : ℕ) → page < 2 ^ arena.height → IsTrue (is_free_page arena.lent page)
      → IsHome homes page

-- the free pages and those of all allocated blocks, wherever they are, are the arena's pages; a
-- block takes a part of the ledger for each of its pages, so the arena keeps more parts than it has
-- free pages
pub record AddsUp (arena : Lending) (out parts : ℕ) : Type 0 where
  pub pages : free_pages arena.height arena.lent + out ≡ 2 ^ arena.height
  pub parted : free_pages arena.height arena.lent < parts

-- there is an empty shell for each block that could still be allocated, and room to keep each shell
pub record IsShelled (arena : Lending) (shells places : ℕ) : Type 0 where
  pub count : shells + length arena.lent ≡ 2 ^ arena.height
  pub room : places ≡ 2 ^ arena.height

-- the pages are in their places, a shell is there for each block, and the pages' number is right
pub record IsArena (arena : Lending) (homes : List (List ℕ)) (shells places out parts : ℕ)
    : Type 0 where
  pub stocked : IsStocked arena homes
  pub shelled : IsShelled arena shells places
  pub adds_up : AddsUp arena out parts

-- an arena that has allocated nothing yet: it holds all its pages, and they are zero
pub record IsFreshArena (arena : Lending) (homes : List (List ℕ)) (shells places : ℕ) : Type 0 where
  pub low : arena.height ≤ MAX_HEIGHT
  pub none : arena.lent ≡ []
  pub all : homes ≡ replicate (2 ^ arena.height) (replicate PAGE_LEN 0)
  pub shelled : shells ≡ 2 ^ arena.height
  pub room : places ≡ 2 ^ arena.height
