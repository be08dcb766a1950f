use Rattle.std.proofs.Common.{ap, ◌∙◌}
use Rattle.mq_trace.specs.Walk.{Trail, passed}
use Rattle.mq_trace.proofs.Parts.{passed_one}
use Rattle.mq_trace.proofs.part.Part.pass.Goals as goal

pub returns-then-self : goal.returns-then-self
returns-then-self c =
    passed_one c.self.inside.events.now c.self.inside.begun c.self.inside.done c.self.invariant.0 c.if-self.true
    ∙ ap (λ (t : Trail). passed t.log t.rest) c.self.view_is
