use Rattle.std.proofs.Common.{◌≡◌, ◌-◌, length, take, replicate, ◌++◌}
use Rattle.mq_arena.specs.Bytes.{AreWhole, filled}
use Rattle.mq_arena.specs.declared.page.TheConstants.{PAGE_LEN}
use Rattle.mq_arena.proofs.writes.overwrite.Given as goal

-- what is left to write over zeros, behind the pages so far, gives the pages as they end
abbrev pub invariant-loop-page : goal.invariant-loop-page
invariant-loop-page l = record {
  whole : AreWhole l.pages;
  goes_on : filled PAGE_LEN (replicate (length l.pages) (replicate PAGE_LEN 0)) l.fn.bytes
      ≡ take l.page-index l.pages
      ++ filled PAGE_LEN (replicate (length l.pages - l.page-index) (replicate PAGE_LEN 0)) l.rest;
}
