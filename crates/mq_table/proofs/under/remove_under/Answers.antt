use Rattle.std.proofs.Common.{arith, ◌∙◌, sym}
use Rattle.mq_table.proofs.Kepts.{live_is, made_is}
use Rattle.mq_table.proofs.Pasts.{made_some}
use Rattle.mq_table.proofs.under.remove_under.Goals as goal

pub overflow_sub-made : goal.overflow_sub-made
overflow_sub-made g c =
    let h = c.holds.ensures.lawful in
    let live = sym (live_is h.list _ h.part) ∙ c.requires.live in
    let some = made_some _ h.list h.lawful live in
    omega (arith, some, made_is h.list _ h.part, c.made.ensures.value)
