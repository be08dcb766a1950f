use Rattle.std.proofs.Common.{◌∙◌}
use Rattle.mq_select.proofs.Layers.{not_reached, reached}
use Rattle.mq_select.proofs.layered.is_behind.Goals as goal

pub returns-in-Some-clause-before : goal.returns-in-Some-clause-before
returns-in-Some-clause-before g c h =
    let is = reached c.args.place c.in-Some.least c.args.rest.now.messages c.in-Some.ensures in
    not_reached c.args.place c.args.rest.now.messages c.places_rise.ensures (is ∙ h)
