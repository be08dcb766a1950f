use Rattle.std.proofs.Common.{◌∙◌}
use Rattle.mq_select.proofs.FirstLowest.{up_to_is}
use Rattle.mq_select.proofs.list.ListWaitingWaiting.find.Goals as goal

pub returns-in-UpTo : goal.returns-in-UpTo
returns-in-UpTo g c =
    rw (← c.self.view_is, c.in-UpTo.is)
    (c.first_within.ensures ∙ up_to_is (λ m. m.1.mtype) c.in-UpTo.bound c.self.inside.messages.items)
