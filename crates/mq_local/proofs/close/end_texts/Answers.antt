use Rattle.std.proofs.Common.{sym, ap, ◌∙◌}
use Rattle.mq_calls.specs.Texts.{spends_all}
use Rattle.mq_calls.proofs.HomeLemmas.{none_home}
use Rattle.mq_local.proofs.close.end_texts.Goals as goal

pub returns-in-None-clause-arena : goal.returns-in-None-clause-arena
returns-in-None-clause-arena g c =
    let nothing = rw c.in-None.is at c.end_slot-closed.ensures.none in
    sym (none_home c.args.arena.now) ∙ ap (λ ms. spends_all ms c.args.arena.now) (sym nothing)
