use Rattle.std.proofs.Common.{◌≤◌, ◌<◌, ◌+◌, ℕ, length}
use Rattle.mq_arena.specs.Bytes.{AreWhole}
use Rattle.mq_arena.specs.Homes.{SameOutside, IsHome}
use Rattle.mq_arena.proofs.homes.put_pages.Given as goal

-- the pages that are left are whole, the arena holds those put back, and no other place changed
abbrev pub invariant-loop-page : goal.invariant-loop-page
invariant-loop-page l = record {
  whole : AreWhole l.places.value.items;
  fewer : length l.places.value.items ≤ length l.fn.places.value.items;
  there : (page : ℕ) → l.start + length l.places.value.items ≤ page
      → page < l.start + length l.fn.places.value.items → IsHome l.homes page;
  others : SameOutside l.fn.homes l.homes l.start (length l.fn.places.value.items);
}

abbrev pub decreases-loop-page : goal.decreases-loop-page
decreases-loop-page l = length l.places.value.items
