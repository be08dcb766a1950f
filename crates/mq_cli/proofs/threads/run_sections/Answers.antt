use Rattle.std.proofs.Common.{◌∙◌}
use Rattle.mq_cli.proofs.threads.run_sections.Goals as goal

pub ports_of-requires : goal.ports_of-requires
ports_of-requires g c = c.deref.ensures.value ∙ c.in-Ok.ensures
