use Rattle.std.proofs.Common.{not}
use Rattle.std.specs.Ordering.{int_eq}
use Rattle.mq_system.proofs.KeysLemmas.{left_within}
use Rattle.mq_system.proofs.keys.Keys.forget_key.Goals as goal

pub invariant_of-self : goal.invariant_of-self
invariant_of-self g c =
    rw c.forget_key.ensures.left
    (left_within (λ p. not (int_eq p.0 _)) g.N.Names.slots c.self.inside.table c.self.invariant)
