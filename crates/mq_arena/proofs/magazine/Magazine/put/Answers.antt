use Rattle.std.proofs.Common.{◌≤◌, length, arith}
use Rattle.std.proofs.lemmas.Nat.{pow_pos}
use Rattle.mq_arena.specs.Account.{pages_of}
use Rattle.mq_arena.proofs.Magazines.{few_blocks}
use Rattle.mq_arena.proofs.magazine.Magazine.put.Goals as goal

pub push_reserved-requires : goal.push_reserved-requires
push_reserved-requires g c =
    let few : length c.self.inside.blocks.items ≤ pages_of c.self.inside.blocks.items = few_blocks (λ b. b.order) c.self.inside.blocks.items in
    omega (
      arith,
      few,
      c.self.invariant.counted,
      c.self.invariant.room,
      c.page_count.ensures,
      pow_pos c.order.result,
      c.if-pages-gt-MAGAZINE_PAGES.false,
    )
