use Rattle.std.proofs.Common.{◌≡◌, take, drop, ◌++◌}
use Rattle.mq_arena.specs.Bytes.{AreWhole, filled}
use Rattle.mq_arena.specs.declared.page.TheConstants.{PAGE_LEN}
use Rattle.mq_arena.proofs.writes.fill.Given as goal

-- what is left to write over the rest of the pages gives the pages as they end
abbrev pub invariant-loop-page : goal.invariant-loop-page
invariant-loop-page l = record {
  whole : AreWhole l.pages;
  goes_on : filled PAGE_LEN l.fn.pages l.fn.bytes ≡ take l.page-index l.pages ++ filled PAGE_LEN (drop l.page-index l.pages) l.rest;
}
