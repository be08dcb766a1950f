use Rattle.std.proofs.Common.{arith}
use Rattle.mq_select.proofs.Counts.{count_is}
use Rattle.mq_select.proofs.by_type.ByType.len.Goals as goal

pub returns : goal.returns
returns g c =
    let all = count_is (λ m. m.mtype) _ c.self.inside.types.entries c.self.invariant.0.rising c.len.ensures.unique c.self.invariant.0.typed in
    rw (← c.self.view_is) (omega (arith, c.len.ensures.len, all))
