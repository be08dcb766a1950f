use Rattle.mq_message.proofs.Places.{rising_push}
use Rattle.mq_select.proofs.Nodes.{all_filled, filled_is, pushed}
use Rattle.mq_select.proofs.queue.TypeQueue.put.Goals as goal

pub invariant_of-self : goal.invariant_of-self
invariant_of-self g c =
    let joined = rw c.fill.ensures at c.in-Ok.ensures.items in
    let is = pushed c.self.inside.nodes c.append.new.self (c.args.place, c.args.message) c.self.invariant.0 joined in
    let above = rw (← c.self.view_is) at c.requires.above in
    (all_filled _ _ is, rw (filled_is _ _ is) (rising_push _ _ _ c.self.invariant.1 above))

pub returns-clause-added : goal.returns-clause-added
returns-clause-added g c =
    let joined = rw c.fill.ensures at c.in-Ok.ensures.items in
    let is = pushed c.self.inside.nodes c.append.new.self (c.args.place, c.args.message) c.self.invariant.0 joined in
    rw (← c.self.view_is) (filled_is _ _ is)
