use Rattle.std.proofs.Common.{rules, arith, ◌≡◌, ◌≤◌, ◌^◌, ap, ◌∙◌, length}
use Rattle.mq_tree.proofs.Powers.{pow_le}
use Rattle.mq_calls.specs.Limits.{IsWithin}
use Rattle.mq_local.proofs.NewLemmas.{keyed_new, lawful_new, waits_new}
use Rattle.mq_calls.proofs.SlotLemmas.{length_new, placed_new}
use Rattle.mq_local.proofs.one_thread.OneThread.new.Goals as goal

pub open-requires-clause-enough : goal.open-requires-clause-enough
open-requires-clause-enough g c =
    let limits : IsWithin c.args.config = search rules in
    let few : 2 ^ c.in-Ok.arena ≤ 2 ^ 10 = pow_le c.in-Ok.arena 10 (search (rules, limits)) in
    omega (arith, few, c.requires.enough)

pub invariant_of-result : goal.invariant_of-result
invariant_of-result g c =
    let limits : IsWithin c.args.config = search rules in
    let many : length c.fill.new.slots.items ≡ c.args.config.slots = ap length c.fill.ensures ∙ length_new c.args.config.slots in
    record {
      placed = λ k within. rw c.fill.ensures (placed_new c.args.config.slots k (omega (arith, within, many)));
      lawful = rw c.fill.ensures (lawful_new c.args.config.last_seq c.args.config.slots);
      waits = rw c.fill.ensures (waits_new c.args.config.slots);
      keyed = rw (c.fill.ensures, c.new-2.ensures) (keyed_new c.args.config.slots);
      few = omega (arith, many, limits);
      bounded = limits.last_seq;
      none_closed = c.in-Ok-with_capacity.ensures.items;
      reserved = omega (arith, many, c.in-Ok-with_capacity.ensures.capacity);
    }
