use Rattle.std.proofs.Common.{◌++◌, refl}
use Rattle.mq_select.proofs.Takes.{first_left, first_there, none_left}
use Rattle.mq_select.proofs.layered.Layered.pop_first.Goals as goal

pub take-requires : goal.take-requires
take-requires g c = first_there (c.self.inside.first.messages ++ c.self.inside.rest.messages) c.in-Some.place c.in-Some.ensures

pub returns-in-Some : goal.returns-in-Some
returns-in-Some g c =
    let left = first_left (c.self.inside.first.messages ++ c.self.inside.rest.messages) c.take.new.self.messages c.in-Some.place c.take.result c.self.invariant.rising c.in-Some.ensures c.take.ensures.taken c.take.ensures.rest in
    record { none = tt; first = rw (← c.self.view_is) (cc left); unprepared = c.take.ensures.unprepared }

pub returns-in-None : goal.returns-in-None
returns-in-None g c =
    record { none = none_left (c.self.inside.first.messages ++ c.self.inside.rest.messages) c.in-None.ensures; first = rw (← c.self.view_is) refl; unprepared = refl }
