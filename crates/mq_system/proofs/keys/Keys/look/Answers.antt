use Rattle.mq_system.proofs.KeysLemmas.{found_within}
use Rattle.mq_system.proofs.keys.Keys.look.Goals as goal

pub returns-clause-within : goal.returns-clause-within
returns-clause-within g c = rw c.look.ensures (found_within _ _ _ c.self.invariant)
