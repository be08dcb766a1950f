use Rattle.std.proofs.Common.{arith, rules, ◌+◌, ◌≤◌, length}
use Rattle.mq_queue.specs.declared.limits.TheConstants.{MAX_CUT}
use Rattle.mq_queue.proofs.Keeps.{cut_base, cut_kept, cut_known}
use Rattle.mq_queue.proofs.state.QueueState.cut.Goals as goal

pub invariant_of-self : goal.invariant_of-self
invariant_of-self g c =
    let after = cut_base g.B.Body.bytes c.self.inside.base _ c.self.inside.tail.items (g.W.Waiting.messages c.self.inside.waiting) c.self.inside.kept c.in_ok-places.places c.of-waiting.result (search (rules, c.replace-base.ensures.after)) (omega (arith, c.in_ok-places.ensures.value)) (search (rules, c.of-waiting.ensures, c.in_ok-entries.ensures)) in
    let few : c.self.inside.base.places + length c.self.inside.tail.items ≤ MAX_CUT =
    omega (arith, c.in_ok-places.ensures.value, c.in_ok-places.ensures.few) in
    cut_kept g.B.Body.bytes _ _ _ _ _ _ c.self.invariant after few (rw c.replace-tail.ensures.after c.new.ensures.items)

pub returns-clause-known : goal.returns-clause-known
returns-clause-known g c =
    let after = cut_base g.B.Body.bytes c.self.inside.base _ c.self.inside.tail.items (g.W.Waiting.messages c.self.inside.waiting) c.self.inside.kept c.in_ok-places.places c.of-waiting.result (search (rules, c.replace-base.ensures.after)) (omega (arith, c.in_ok-places.ensures.value)) (search (rules, c.of-waiting.ensures, c.in_ok-entries.ensures)) in
    rw (← c.self.view_is) (cut_known g.B.Body.bytes _ _ _ _ _ c.self.invariant after)
