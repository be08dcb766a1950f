use Rattle.mq_select.proofs.Layers.{both_empty}
use Rattle.mq_select.proofs.layered.LayeredWaiting.end.Goals as goal

pub end-requires : goal.end-requires
end-requires g c =
    let none = rw (← c.self.view_is) at c.requires in
    (both_empty c.self.inside.first.messages c.self.inside.rest.messages none).0

pub end-requires-2 : goal.end-requires-2
end-requires-2 g c =
    let none = rw (← c.self.view_is) at c.requires in
    (both_empty c.self.inside.first.messages c.self.inside.rest.messages none).1
