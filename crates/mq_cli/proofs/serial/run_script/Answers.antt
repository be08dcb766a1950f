use Rattle.std.proofs.Common.{◌≡◌}
use Rattle.mq_cli.specs.Session.{first_session}
use Rattle.mq_cli.proofs.Runs.{prefix_kept, runs_prefix}
use Rattle.mq_cli.proofs.serial.run_script.Goals as goal

pub returns-in-Err : goal.returns-in-Err
returns-in-Err g c =
    let started : c.in-Ok.session ≡ first_session c.args.config = c.in-Ok.ensures in
    prefix_kept _ _ _ _ (runs_prefix _ _ _ _ (rw started at c.run_lines-outcome.ensures)) c.in-Err.ensures.bytes
