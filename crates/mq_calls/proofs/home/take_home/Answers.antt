use Rattle.std.proofs.Common.{◌∷◌, arith, sym, ap, ◌∙◌}
use Rattle.std.proofs.lemmas.List.Sorted.{length_permutation}
use Rattle.mq_tree.specs.LentSet.{Lending}
use Rattle.mq_calls.specs.Texts.{spends, spends_all}
use Rattle.mq_arena.specs.Text.{PlainText}
use Rattle.mq_calls.proofs.HomeLemmas.{none_home, one_home, order_home}
use Rattle.mq_calls.proofs.home.take_home.Goals as goal

pub loop-message-smaller : goal.loop-message-smaller
loop-message-smaller g c = let fewer = length_permutation _ _ (c.in-Some.ensures.some).1 in omega arith

pub loop-message-preserved : goal.loop-message-preserved
loop-message-preserved g c =
    let came = c.in-Some.ensures.some in
    let left = g.W.Waiting.messages c.pop_any.new.self in
    ap (λ (a : Lending). spends_all left a)
    (c.take_back.ensures.back ∙ ap (λ (t : PlainText). spends t c.loop-message.arena) c.into_body.ensures)
    ∙ sym (one_home came.0 c.in-Some.message left c.loop-message.arena)
    ∙ order_home ((came.0, c.in-Some.message) ∷ left) (g.W.Waiting.messages c.loop-message.waiting)
    c.loop-message.arena came.1
    ∙ c.loop-message.invariant

pub returns-clause-arena : goal.returns-clause-arena
returns-clause-arena g c =
    let nothing = c.in_default.ensures.none in
    sym (none_home c.loop-message.arena)
    ∙ ap (λ messages. spends_all messages c.loop-message.arena) (sym nothing.0)
    ∙ c.loop-message.invariant
