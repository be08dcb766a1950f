use Rattle.mq_table.proofs.Kepts.{entries_is}
use Rattle.mq_system.proofs.slots.slot.SharedSlot.next_entry.Goals as goal

pub returns : goal.returns
returns g c =
    let same = entries_is _ _ c.self.invariant.published.kept in
    rw (← c.self.view_is) (cc)
