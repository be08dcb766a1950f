use Rattle.std.proofs.Common.{◌+◌, rules}
use Rattle.std.proofs.lemmas.Result.{err_from_is_err_and}
use Rattle.mq_system.proofs.NameLemmas.{names_are}
use Rattle.mq_cli.proofs.EndLemmas.{unmade_tells, unparsed_tells, unread_tells, wanted_tells}
use Rattle.mq_cli.proofs.threads.run_threads.Goals as goal

pub returns-in_err-script : goal.returns-in_err-script
returns-in_err-script g c =
    let p = err_from_is_err_and c.from_residual.result c.from_residual.ensures.1 in
    record { ran = rw (p.1, p.2) (unread_tells _ _ _ _ _ c.in_err-script.ensures) }

pub returns-in_err-wanted : goal.returns-in_err-wanted
returns-in_err-wanted g c =
    let p = err_from_is_err_and c.from_residual-in_err-wanted.result c.from_residual-in_err-wanted.ensures.1 in
    record { ran = rw (p.1, p.2) (unparsed_tells _ _ _ _ _ _ _ c.in_ok-script.ensures c.deref.ensures.value c.in_err-wanted.ensures) }

pub returns-in_default : goal.returns-in_default
returns-in_default g c = record { ran = unmade_tells _ _ _ _ _ c.in_ok-script.ensures }

pub returns : goal.returns
returns g c =
    let told = c.in_ok-wanted.ensures.is in
    record { ran = search (rules, wanted_tells, c.in_ok-script.ensures, c.deref.ensures.value, told, c.run_wanted.ensures) }

pub run_wanted-requires-clause-names : goal.run_wanted-requires-clause-names
run_wanted-requires-clause-names g c lifetimes outlive =
    names_are c.in-Ok.blanks (record c.args.config { seats = c.len.result + 1 }) c.in-Ok.ensures.entries c.in-Ok.ensures.boards
