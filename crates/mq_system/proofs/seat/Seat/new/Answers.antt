use Rattle.std.proofs.Common.{◌≡◌, ◌+◌, ◌*◌, rules, arith, [], ap, length, replicate, sym, ◌∙◌}
use Rattle.std.specs.List.{sum}
use Rattle.std.proofs.lemmas.List.{length-map, length-replicate}
use Rattle.mq_board.specs.Readers.{ReaderState}
use Rattle.mq_system.specs.declared.seat.TheConstants.{MAX_COUNT}
use Rattle.mq_system.proofs.SeatLemmas.{none_counted, none_great, none_known}
use Rattle.mq_system.proofs.seat.Seat.new.Goals as goal

pub invariant_of-result : goal.invariant_of-result
invariant_of-result g c =
    let slots = g.N.Names.slots in
    let readers = c.fronts.inside.readers.items in
    let none = rw (← c.fronts.view_is) at c.requires.none in
    let counts : c.in_ok-by_slot.by_slot.items ≡ replicate slots 0 = search rules in
    let left : c.args.left.amount + sum c.in_ok-by_slot.by_slot.items ≡ slots * MAX_COUNT =
    omega (arith, c.requires.all, ap (λ n. n * MAX_COUNT) c.requires.slots, ap sum counts, none_counted slots) in
    record {
      some = rw (← c.fronts.view_is) at c.requires.number.0;
      few = rw (← c.fronts.view_is) at c.requires.number.1;
      few_slots = search rules;
      each = search rules;
      readers_each =
          sym (length-map readers (λ (r : ReaderState). r.events)) ∙ ap length none
          ∙ length-replicate slots [];
      placed = c.fronts.invariant;
      part = search rules;
      bounded = rw counts (none_great slots);
      left = left;
      known = λ slot low. rw (counts, none_known slots slot) (omega arith);
    }
