use Rattle.std.proofs.lemmas.Result.{err_from_is_err_and}
use Rattle.mq_cli.proofs.RecordLemmas.{read_kept, unread_kept}
use Rattle.mq_cli.proofs.serial.record.record_serial.Goals as goal

pub returns-in_err-script : goal.returns-in_err-script
returns-in_err-script g c =
    let p = err_from_is_err_and c.from_residual.result c.from_residual.ensures.1 in
    record { recorded = rw (p.1, p.2) (unread_kept _ _ _ _ c.in_err-script.ensures) }

pub returns : goal.returns
returns g c = record { recorded = read_kept _ _ _ _ _ _ c.in_ok-script.ensures c.deref.ensures.value c.record_script.ensures }
