use Rattle.std.proofs.Common.{◌≡◌, replicate}
use Rattle.mq_arena.specs.declared.page.TheConstants.{PAGE_LEN}
use Rattle.mq_arena.proofs.unopened.made_pages.Given as goal

-- the pages so far, all zero
abbrev pub invariant-loop : goal.invariant-loop
invariant-loop l = l.pages.items ≡ replicate l.counter (replicate PAGE_LEN 0)
