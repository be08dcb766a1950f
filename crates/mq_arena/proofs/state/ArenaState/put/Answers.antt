use Rattle.std.proofs.Common.{◌≡◌, ◌∙◌, ◌+◌, ◌++◌, ◌^◌, ℕ, List, length, take, drop, sym, ap, subst, vec_len, vec_capacity, arith}
use Rattle.std.proofs.lemmas.List.{take_at}
use Rattle.mq_arena.specs.Homes.{AreHome, SameOutside}
use Rattle.mq_arena.specs.Stocked.{IsArena}
use Rattle.mq_tree.specs.Blocks.{block}
use Rattle.mq_arena.proofs.Shells.{shell_out}
use Rattle.mq_arena.proofs.Stock.{lent_inside, arena_given}
use Rattle.mq_arena.proofs.state.ArenaState.put.Goals as goal

pub put_pages-places-requires-clause-within : goal.put_pages-places-requires-clause-within
put_pages-places-requires-clause-within g c =
    let inside = lent_inside c.self.inside.tree c.self.inside.homes.items c.block.inside.order c.block.inside.start
    c.self.invariant.stocked (sym c.if-not-give.ensures.lent) in
    omega (
      arith,
      inside,
      c.block.invariant.block.count,
      c.self.invariant.stocked.long,
      ap length c.as_mut_slice.ensures.value,
    )

pub push_reserved-requires : goal.push_reserved-requires
push_reserved-requires g c =
    shell_out c.self.inside.tree (block c.block.inside.start c.block.inside.order) (vec_len c.self.inside.shells)
    (vec_capacity c.self.inside.shells) c.self.invariant.shelled c.self.invariant.stocked.lent_set
    (sym c.if-not-give.ensures.lent)

pub invariant_of-self-2 : goal.invariant_of-self-2
invariant_of-self-2 g c =
    let homes : List (List ℕ) = c.self.inside.homes.items in
    let now : List (List ℕ) = c.put_pages-places.new.homes in
    let start : ℕ = c.block.inside.start in
    let count : length c.block.inside.pages.value.items ≡ 2 ^ c.block.inside.order = c.block.invariant.block.count in
    let home : AreHome now start (2 ^ c.block.inside.order) =
    subst (AreHome now start) count c.put_pages-places.ensures.there in
    let same : SameOutside homes now start (2 ^ c.block.inside.order) =
    subst (SameOutside homes now start) count
    (subst (λ pages. SameOutside pages now start (length c.block.inside.pages.value.items))
    c.as_mut_slice.ensures.value c.put_pages-places.ensures.others) in
    let less : c.sub.new.self.total + 2 ^ c.block.inside.order ≡ c.self.inside.out.total =
    omega (arith, c.sub.ensures.total, c.page_count.ensures) in
    let more : c.merge-2.new.self.parts ≡ c.self.inside.parts.parts + 2 ^ c.block.inside.order =
    omega (arith, c.merge-2.ensures.parts, c.sub.ensures.parts, c.block.invariant.parted) in
    let arena =
    arena_given c.self.inside.tree homes now c.block.inside.order start (vec_len c.self.inside.shells)
    (vec_capacity c.self.inside.shells) c.self.inside.out.total c.self.inside.parts.parts (vec_len c.push_reserved.new.self)
    (vec_capacity c.push_reserved.new.self) c.sub.new.self.total c.merge-2.new.self.parts c.self.invariant (sym c.if-not-give.ensures.lent)
    (c.put_pages-places.auto.homes ∙ ap length c.as_mut_slice.ensures.value) home same
    c.push_reserved.ensures.len c.push_reserved.ensures.capacity less more in
    let back = take_at now (drop (length now) homes) c.self.inside.homes.len (c.put_pages-places.auto.homes ∙ c.as_mut_slice.ensures.len) in
    let whole : IsArena c.give.new.self (take (vec_len c.self.inside.homes) (now ++ drop (length now) homes)) (vec_len c.push_reserved.new.self)
    (vec_capacity c.push_reserved.new.self) c.sub.new.self.total c.merge-2.new.self.parts =
    rw (c.if-not-give.ensures.left, back) arena in
    search whole
