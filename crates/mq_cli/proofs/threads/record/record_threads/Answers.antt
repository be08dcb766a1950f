use Rattle.std.proofs.Common.{◌+◌}
use Rattle.std.proofs.lemmas.Result.{err_from_is_err_and}
use Rattle.mq_system.proofs.NameLemmas.{names_are}
use Rattle.mq_cli.proofs.RecordThreadsLemmas.{unmade_keeps, unparsed_keeps, unread_keeps, wanted_keeps}
use Rattle.mq_cli.proofs.threads.record.record_threads.Goals as goal

pub returns-in_err-script : goal.returns-in_err-script
returns-in_err-script g c =
    let p = err_from_is_err_and c.from_residual.result c.from_residual.ensures.1 in
    record { recorded = rw (p.1, p.2) (unread_keeps _ _ _ _ c.in_err-script.ensures) }

pub returns-in_err-wanted : goal.returns-in_err-wanted
returns-in_err-wanted g c =
    let p = err_from_is_err_and c.from_residual-in_err-wanted.result c.from_residual-in_err-wanted.ensures.1 in
    record { recorded = rw (p.1, p.2) (unparsed_keeps _ _ _ _ _ _ c.in_ok-script.ensures c.deref.ensures.value c.in_err-wanted.ensures) }

pub returns-in_default : goal.returns-in_default
returns-in_default g c = record { recorded = unmade_keeps _ _ _ _ c.in_ok-script.ensures }

pub returns : goal.returns
returns g c =
    record { recorded = wanted_keeps _ _ _ _ _ _ _ c.in_ok-script.ensures c.deref.ensures.value c.in_ok-wanted.ensures.is c.record_wanted.ensures }

pub record_wanted-requires-clause-names : goal.record_wanted-requires-clause-names
record_wanted-requires-clause-names g c lifetimes outlive =
    names_are c.in-Ok.blanks (record c.args.config { seats = c.len.result + 1 }) c.in-Ok.ensures.entries c.in-Ok.ensures.boards
