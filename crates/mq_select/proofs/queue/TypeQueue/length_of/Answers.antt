use Rattle.std.proofs.Common.{sym}
use Rattle.mq_select.proofs.Nodes.{found_in, found_full, found_there}
use Rattle.mq_select.proofs.queue.TypeQueue.length_of.Goals as goal

pub unreachable-requires : goal.unreachable-requires
unreachable-requires g c =
    let found = rw c.in-Some-None.field-0-is at c.in-Some-None.ensures in
    found_full c.self.inside.nodes c.args.place c.self.invariant.0 (sym found)

pub unreachable-requires-in-None : goal.unreachable-requires-in-None
unreachable-requires-in-None g c =
    let waits = rw (← c.self.view_is) at c.requires in
    found_there c.self.inside.nodes c.args.place c.self.invariant.0 waits (sym c.in-None.ensures)

pub returns : goal.returns
returns g c =
    let found = rw c.in-Some-Some.field-0-is at c.in-Some-Some.ensures in
    let here = found_in c.self.inside.nodes c.args.place c.in-Some-Some.message c.self.invariant.0 (sym found) in
    rw (← c.self.view_is, here) c.len.ensures
