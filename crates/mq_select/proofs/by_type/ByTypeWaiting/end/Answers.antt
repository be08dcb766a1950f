use Rattle.std.proofs.Common.{◌∙◌}
use Rattle.mq_select.proofs.Changes.{no_queues}
use Rattle.mq_select.proofs.by_type.ByTypeWaiting.end.Goals as goal

pub destroy_empty-requires : goal.destroy_empty-requires
destroy_empty-requires g c =
    let none = rw (← c.waiting.view_is) at c.forget_prepared.ensures.unprepared in
    let same = rw (← c.waiting.view_is) at c.forget_prepared.ensures.unchanged in
    let index = rw none at c.waiting.invariant.0 in
    no_queues _ _ _ _ _ index (same ∙ c.requires)
