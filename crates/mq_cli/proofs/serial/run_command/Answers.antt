use Rattle.std.proofs.Common.{◌≡◌, refl}
use Rattle.mq_cli.specs.Seen.{asked_by}
use Rattle.mq_cli.specs.Transcript.{output, step}
use Rattle.mq_cli.proofs.Runs.{nothing_yet}
use Rattle.mq_cli.proofs.serial.run_command.Goals as goal

pub returns-in-Err : goal.returns-in-Err
returns-in-Err g c = nothing_yet _ (output (step c.args.number c.args.session.now (asked_by c.args.command)).0)

pub returns-in-Err-write_bytes : goal.returns-in-Err-write_bytes
returns-in-Err-write_bytes g c =
    let written : c.deref.result.now ≡ output (step c.args.number c.args.session.now (asked_by c.args.command)).0 =
    rw (c.deref.ensures.value, c.in_default.ensures.line, c.clear.ensures.items) refl in
    rw (← written) c.in-Err-write_bytes.ensures
