use Rattle.std.proofs.Common.{◌≡◌}
use Rattle.mq_cli.specs.Session.{first_session}
use Rattle.mq_cli.proofs.RecordLemmas.{script_leaves}
use Rattle.mq_cli.proofs.serial.record.record_script.Goals as goal

pub returns : goal.returns
returns g c =
    let started : c.in-Ok.session ≡ first_session c.args.config = c.in-Ok.ensures in
    script_leaves _ _ _ _ _ (rw started at c.record_lines-ended.ensures) c.close-slots.ensures c.left_of.ensures
