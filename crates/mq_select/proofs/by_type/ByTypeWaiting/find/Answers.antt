use Rattle.std.proofs.Common.{true}
use Rattle.mq_select.proofs.Firsts.{least_found}
use Rattle.mq_select.proofs.by_type.ByTypeWaiting.find.Goals as goal

pub returns-in-Any : goal.returns-in-Any
returns-in-Any g c =
    rw (← c.self.view_is, c.in-Any.is)
    (least_found _ _ _ _ _ _ (λ _. true) c.least.result c.self.invariant.0 c.least.ensures)
