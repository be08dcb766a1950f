use Rattle.std.proofs.Common.{subst}
use Rattle.mq_local.specs.Holds.{AreKeysOf}
use Rattle.mq_calls.specs.State.{QueuesState}
use Rattle.mq_local.proofs.one_thread.OneThread.holds.Goals as goal

pub returns-clause-keys : goal.returns-clause-keys
returns-clause-keys g c =
    subst (λ (s : QueuesState). AreKeysOf s.slots s.keys) c.self.view_is c.self.invariant.keyed
