use Rattle.std.proofs.Common.{◌^◌, vec_len, vec_capacity, ap, arith}
use Rattle.mq_arena.proofs.Stock.{arena_made}
use Rattle.mq_arena.proofs.unopened.Unopened.open.Goals as goal

pub invariant_of-result : goal.invariant_of-result
invariant_of-result g c =
    let made =
    arena_made c.self.inside.tree c.self.inside.homes.items (vec_len c.self.inside.shells)
    (vec_capacity c.self.inside.shells) c.open-out.result.0.total c.open-out.result.1.parts
    c.self.invariant c.open-out.ensures.total
    (omega (arith, ap (λ h. 2 ^ h) c.self.view_is, c.open-out.ensures.parts, c.requires.parts, c.requires.enough)) in
    search made
