use Rattle.mq_table.proofs.Kepts.{entries_is, made_is}
use Rattle.mq_system.proofs.slots.slot.SlotParts.holds.Goals as goal

pub returns-clause-few : goal.returns-clause-few
returns-clause-few g c =
    rw (← entries_is _ _ c.requires.kept, ← c.events.ensures.value) c.events.ensures.small

pub returns-clause-made : goal.returns-clause-made
returns-clause-made g c =
    rw (← made_is _ _ c.requires.kept, ← c.made.ensures.value) c.made.ensures.within
