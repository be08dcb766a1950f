use Rattle.std.proofs.Common.{◌∙◌}
use Rattle.mq_table.proofs.Kepts.{waiting_is}
use Rattle.mq_system.proofs.slots.slot.SharedSlot.holds.Goals as goal

pub returns-clause-waits : goal.returns-clause-waits
returns-clause-waits g c =
    rw (← c.self.view_is)
    (c.holds.ensures.waits ∙ waiting_is _ _ c.self.invariant.published.kept)
