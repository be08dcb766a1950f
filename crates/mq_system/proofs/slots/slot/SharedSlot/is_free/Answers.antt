use Rattle.std.proofs.Common.{rules}
use Rattle.mq_table.proofs.Kepts.{is_free_is}
use Rattle.mq_system.proofs.slots.slot.SharedSlot.is_free.Goals as goal

pub returns : goal.returns
returns g c =
    rw (← c.self.view_is, ← is_free_is _ _ c.self.invariant.published.kept _)
    (search (rules, c.is_free.ensures.value))
