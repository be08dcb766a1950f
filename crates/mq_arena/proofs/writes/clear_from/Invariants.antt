use Rattle.std.proofs.Common.{◌≡◌, take, drop, ◌++◌}
use Rattle.mq_arena.specs.Bytes.{AreWhole}
use Rattle.mq_arena.specs.declared.page.TheConstants.{PAGE_LEN}
use Rattle.mq_arena.proofs.Clearing.{cleared}
use Rattle.mq_arena.proofs.writes.clear_from.Given as goal

-- clearing the rest of the pages gives the pages as they end
abbrev pub invariant-loop-page : goal.invariant-loop-page
invariant-loop-page l = record {
  whole : AreWhole l.pages;
  goes_on : cleared PAGE_LEN l.fn.len l.fn.pages ≡ take l.page-index l.pages ++ cleared PAGE_LEN l.rest (drop l.page-index l.pages);
}
