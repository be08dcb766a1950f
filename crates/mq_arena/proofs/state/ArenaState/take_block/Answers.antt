use Rattle.std.proofs.Common.{◌≡◌, ◌∙◌, ◌+◌, ◌^◌, ◌<◌, ℕ, List, length, drop, sym, ap, subst, vec_len, vec_capacity, arith}
use Rattle.std.proofs.lemmas.List.{take_at}
use Rattle.mq_arena.specs.Homes.{IsHome, SameOutside}
use Rattle.mq_tree.proofs.Fits.{fit_passes}
use Rattle.mq_tree.proofs.FreePages.{free_joined}
use Rattle.mq_arena.proofs.Stock.{fit_home, arena_taken, arena_back, lent_back}
use Rattle.mq_arena.proofs.Shells.{shell_there}
use Rattle.mq_arena.proofs.state.ArenaState.take_block.Goals as goal

pub unreachable-requires : goal.unreachable-requires
unreachable-requires g c =
    let some = shell_there c.self.inside.tree c.args.order c.in-Some.start (vec_len c.self.inside.shells) (vec_capacity c.self.inside.shells)
    c.self.invariant.shelled c.self.invariant.stocked.lent_set (sym c.in-Some.ensures.fit) in
    omega (arith, some, c.in_default-pop.ensures.cases.0)

pub take_pages-pages-requires-clause-within : goal.take_pages-pages-requires-clause-within
take_pages-pages-requires-clause-within g c =
    let tree = c.self.inside.tree in
    omega (arith, (fit_passes tree.height tree.lent c.args.order c.in-Some.start (sym c.in-Some.ensures.fit)).in_arena, c.page_count-count.ensures, c.self.invariant.stocked.long, ap length c.as_mut_slice-homes.ensures.value)

pub take_pages-pages-requires-clause-there : goal.take_pages-pages-requires-clause-there
take_pages-pages-requires-clause-there g c page from below =
    let home = fit_home c.self.inside.tree c.self.inside.homes.items c.args.order c.in-Some.start
    c.self.invariant.stocked (sym c.in-Some.ensures.fit) page from
    (subst (λ n. page < c.in-Some.start + n) c.page_count-count.ensures below) in
    subst (λ pages. IsHome pages page) (sym c.as_mut_slice-homes.ensures.value) home

-- the block's pages were counted as free
pub split_off-share-requires-clause-has_parts : goal.split_off-share-requires-clause-has_parts
split_off-share-requires-clause-has_parts g c =
    let less = free_joined c.self.inside.tree.height c.self.inside.tree.lent c.args.order c.in-Some.start (sym c.in-Some.ensures.fit) in
    omega (arith, less, c.self.invariant.adds_up.parted, c.page_count-count.ensures)

pub split_off-share-requires-clause-left_backed : goal.split_off-share-requires-clause-left_backed
split_off-share-requires-clause-left_backed g c =
    let less = free_joined c.self.inside.tree.height c.self.inside.tree.lent c.args.order c.in-Some.start (sym c.in-Some.ensures.fit) in
    omega (arith, less, c.self.invariant.adds_up.parted, c.page_count-count.ensures)

pub invariant_of-self-2 : goal.invariant_of-self-2
invariant_of-self-2 g c =
    let homes : List (List ℕ) = c.self.inside.homes.items in
    let now : List (List ℕ) = c.take_pages-pages.new.homes in
    let same_length : length now ≡ length homes =
    c.take_pages-pages.auto.homes ∙ ap length c.as_mut_slice-homes.ensures.value in
    let same : SameOutside homes now c.in-Some.start (2 ^ c.args.order) =
    subst (SameOutside homes now c.in-Some.start) c.page_count-count.ensures
    (subst (λ pages. SameOutside pages now c.in-Some.start c.page_count-count.result)
    c.as_mut_slice-homes.ensures.value c.take_pages-pages.ensures.others) in
    let less = free_joined c.self.inside.tree.height c.self.inside.tree.lent c.args.order c.in-Some.start (sym c.in-Some.ensures.fit) in
    let arena =
    arena_taken c.self.inside.tree homes now c.args.order c.in-Some.start (vec_len c.self.inside.shells)
    (vec_capacity c.self.inside.shells) c.self.inside.out.total c.self.inside.parts.parts (vec_len c.pop.new.self)
    (vec_capacity c.pop.new.self) c.add.new.self.total c.split_off-share.new.self.parts c.self.invariant (sym c.in-Some.ensures.fit) same_length same
    c.in-Some-pop.ensures.cases c.pop.ensures.capacity (omega arith) (omega (arith, less)) in
    rw (c.in-Some.ensures.lent, take_at now (drop (length now) homes) c.self.inside.homes.len (c.take_pages-pages.auto.homes ∙ c.as_mut_slice-homes.ensures.len)) arena

pub invariant_of-self-in-Err : goal.invariant_of-self-in-Err
invariant_of-self-in-Err g c =
    let back =
    lent_back c.self.inside.tree c.lend.new.self c.give.new.self c.args.order c.in-Some.start (sym c.in-Some.ensures.fit)
    c.in-Some.ensures.lent c.give.ensures.left in
    arena_back c.self.inside.tree c.give.new.self c.self.inside.homes.items (vec_len c.self.inside.shells)
    (vec_capacity c.self.inside.shells) (vec_len c.push_reserved.new.self) (vec_capacity c.push_reserved.new.self)
    c.self.inside.out.total c.self.inside.parts.parts c.self.invariant back
    (c.push_reserved.ensures.len ∙ c.in-Some-pop.ensures.len) (c.push_reserved.ensures.capacity ∙ c.pop.ensures.capacity)

pub returns-in-Err-clause-unchanged : goal.returns-in-Err-clause-unchanged
returns-in-Err-clause-unchanged g c =
    lent_back c.self.inside.tree c.lend.new.self c.give.new.self c.args.order c.in-Some.start (sym c.in-Some.ensures.fit)
    c.in-Some.ensures.lent c.give.ensures.left
    ∙ c.self.view_is
