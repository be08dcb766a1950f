use Rattle.std.proofs.Common.{rules}
use Rattle.mq_table.proofs.Kepts.{live_is, standing_is}
use Rattle.mq_system.proofs.slots.slot.SlotParts.look.Goals as goal

pub returns-in-Ok-clause-value : goal.returns-in-Ok-clause-value
returns-in-Ok-clause-value g c =
    rw (← standing_is _ _ c.requires.kept _)
    (search (rules, c.in-Ok.ensures))

pub returns-in-Err-clause-value : goal.returns-in-Err-clause-value
returns-in-Err-clause-value g c =
    rw (← standing_is _ _ c.requires.kept _)
    (search (rules, c.in-Err.ensures))

pub returns-in-Ok-clause-live : goal.returns-in-Ok-clause-live
returns-in-Ok-clause-live g c =
    rw (← live_is _ _ c.requires.kept)
    (search (rules, c.in-Ok.ensures))
