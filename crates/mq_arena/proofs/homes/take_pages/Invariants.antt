use Rattle.std.proofs.Common.{◌≡◌, ◌-◌, length}
use Rattle.mq_arena.specs.Bytes.{AreWhole}
use Rattle.mq_arena.specs.Homes.{SameOutside}
use Rattle.mq_arena.proofs.homes.take_pages.Given as goal

-- the pages so far are whole, and no other place changed
abbrev pub invariant-loop-i : goal.invariant-loop-i
invariant-loop-i l = record {
  whole : AreWhole l.places.value.items;
  count : length l.places.value.items ≡ l.i - l.start;
  room : l.places.value.capacity ≡ l.fn.places.value.capacity;
  others : SameOutside l.fn.homes l.homes l.start (l.i - l.start);
}
