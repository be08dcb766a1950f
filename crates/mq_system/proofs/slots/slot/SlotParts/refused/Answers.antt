use Rattle.mq_table.proofs.Kepts.{entries_is}
use Rattle.mq_system.proofs.slots.slot.SlotParts.refused.Goals as goal

pub returns : goal.returns
returns g c =
    let same = entries_is _ _ c.requires.kept in
    (cc)
