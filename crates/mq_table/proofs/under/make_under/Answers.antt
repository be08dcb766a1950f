use Rattle.std.proofs.Common.{rules, sym, ◌∙◌}
use Rattle.mq_table.proofs.Kepts.{live_is}
use Rattle.mq_table.proofs.KeptTurns.{no_base}
use Rattle.mq_table.proofs.under.make_under.Goals as goal

pub returns-in-Ok-clause-noticed : goal.returns-in-Ok-clause-noticed
returns-in-Ok-clause-noticed g c =
    let h = c.holds.ensures.lawful in
    let none = no_base h.list _ h.part (sym (live_is h.list _ h.part) ∙ c.requires.empty) in
    let noticed = rw c.in-Ok.ensures.answer.base at c.in-Ok.ensures.noticed in
    rw (c.put.ensures, none) (search (rules, noticed))
