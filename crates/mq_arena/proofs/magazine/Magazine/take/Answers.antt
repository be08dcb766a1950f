use Rattle.std.proofs.Common.{◌≡◌, ◌==◌, Some, position, arith, rules}
use Rattle.mq_arena.proofs.Magazines.{is_taken}
use Rattle.mq_arena.proofs.magazine.Magazine.take.Goals as goal

pub overflow_sub-self : goal.overflow_sub-self
overflow_sub-self g c =
    let found : position (λ b. b.order == c.args.order) c.self.inside.blocks.items ≡ Some c.in_ok-index.index = search rules in
    let taken =
    is_taken c.args.order c.in_ok-index.index c.self.inside.blocks.items c.swap_remove-block.new.self.items c.swap_remove-block.result found
    c.swap_remove-block.ensures.value c.swap_remove-block.ensures.items in
    omega (arith, taken.fewer, c.page_count.ensures, c.self.invariant.counted)

pub invariant_of-self : goal.invariant_of-self
invariant_of-self g c =
    let found : position (λ b. b.order == c.args.order) c.self.inside.blocks.items ≡ Some c.in_ok-index.index = search rules in
    let taken =
    is_taken c.args.order c.in_ok-index.index c.self.inside.blocks.items c.swap_remove-block.new.self.items c.swap_remove-block.result found
    c.swap_remove-block.ensures.value c.swap_remove-block.ensures.items in
    record {
      counted = omega (arith, taken.fewer, c.page_count.ensures, c.self.invariant.counted);
      few = omega (arith, c.self.invariant.few);
      room = omega (arith, c.swap_remove-block.ensures.capacity, c.self.invariant.room);
    }

pub returns-clause-order : goal.returns-clause-order
returns-clause-order g c =
    let found : position (λ b. b.order == c.args.order) c.self.inside.blocks.items ≡ Some c.in_ok-index.index = search rules in
    let taken =
    is_taken c.args.order c.in_ok-index.index c.self.inside.blocks.items c.swap_remove-block.new.self.items c.swap_remove-block.result found
    c.swap_remove-block.ensures.value c.swap_remove-block.ensures.items in
    search (rules, taken.order_is)

pub returns-clause-taken : goal.returns-clause-taken
returns-clause-taken g c =
    let found : position (λ b. b.order == c.args.order) c.self.inside.blocks.items ≡ Some c.in_ok-index.index = search rules in
    let taken =
    is_taken c.args.order c.in_ok-index.index c.self.inside.blocks.items c.swap_remove-block.new.self.items c.swap_remove-block.result found
    c.swap_remove-block.ensures.value c.swap_remove-block.ensures.items in
    search (rules, taken.moved)
