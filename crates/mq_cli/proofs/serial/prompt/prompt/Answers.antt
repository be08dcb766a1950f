use Rattle.std.proofs.Common.{◌≡◌}
use Rattle.mq_cli.specs.Session.{first_session}
use Rattle.mq_cli.proofs.serial.prompt.prompt.Goals as goal

pub returns : goal.returns
returns g c =
    let started : c.in-Ok.session ≡ first_session c.args.config = c.in-Ok.ensures in
    rw started at c.answer_lines-outcome.ensures
