use Rattle.std.proofs.Common.{◌≡◌, List, [], ap, sym, ◌∙◌}
use Rattle.mq_queue.specs.declared.event.Event.{Event}
use Rattle.mq_trace.specs.Steps.{steps_from}
use Rattle.mq_trace.specs.Walk.{Walk}
use Rattle.mq_trace.proofs.Parts.{nothing_first}
use Rattle.mq_trace.proofs.steps.StepsIterator.next.Goals as goal

pub returns-in_err-event-clause-steps : goal.returns-in_err-event-clause-steps
returns-in_err-event-clause-steps c =
    let none : c.self.inside.trail.rest ≡ [] = nothing_first c.self.inside.trail.rest (sym c.first.ensures ∙ c.in_err-event.was) in
    let rest : c.args.self.now.rest ≡ [] = ap (λ (w : Walk). w.rest) (sym c.self.view_is) ∙ none in
    let steps : steps_from c.args.self.now.at c.args.self.now.rest ≡ [] = ap (λ (es : List Event). steps_from c.args.self.now.at es) rest in
    rw c.from_residual.ensures (steps, steps)
