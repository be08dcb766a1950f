use Rattle.std.proofs.Common.{◌∙◌}
use Rattle.mq_cli_tests.proofs.workers.seats.day.Goals as goal

pub turns-requires : goal.turns-requires
turns-requires g c = c.deref.ensures.value ∙ c.in-Ok.ensures
